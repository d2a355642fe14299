-- Words that are no command.
use Rattle.std.proofs.Common.{ℕ, ◌≡◌, ◌≢◌, List, [], ◌∷◌, length, None, refl}
use Rattle.micro_cli.specs.Command.{command_of}

-- a command has two, three, four or six words
pub no_command : (words : List (List ℕ)) → length words ≢ 2 → length words ≢ 3 → length words ≢ 4 → length words ≢ 6
    → command_of words ≡ None
no_command [] two three four six = refl
no_command (a ∷ []) two three four six = refl
no_command (a ∷ b ∷ []) two three four six = absurd (two refl)
no_command (a ∷ b ∷ c ∷ []) two three four six = absurd (three refl)
no_command (a ∷ b ∷ c ∷ d ∷ []) two three four six = absurd (four refl)
no_command (a ∷ b ∷ c ∷ d ∷ e ∷ []) two three four six = refl
no_command (a ∷ b ∷ c ∷ d ∷ e ∷ f ∷ []) two three four six = absurd (six refl)
no_command (a ∷ b ∷ c ∷ d ∷ e ∷ f ∷ g ∷ more) two three four six = refl
