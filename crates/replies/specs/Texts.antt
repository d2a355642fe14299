-- The texts of refusals (this project's own format). Each is one line. The text of a file that was not saved is in
-- `Unsaved` of the crate `saved_files`, and the checker's are in `CheckerText` of `micro_cli`.
use Rattle.std.specs.Prelude.{ℕ, ◌≡◌, List, ◌++◌, codes, decimal}
use Rattle.replies.specs.declared.status.Status.{Status}
use Rattle.replies.specs.declared.status.Status.TheVariants as status

-- a file is refused for this reason
abbrev pub refused : List ℕ → List ℕ → List ℕ
refused name why = codes "refused " ++ name ++ codes " " ++ why ++ codes "\n"

-- what is wrong in a line
abbrev pub line_reason : ℕ → List ℕ → List ℕ
line_reason line kind = codes "line " ++ decimal line ++ codes " " ++ kind

-- a file could not be read
abbrev pub cannot_read : List ℕ → List ℕ
cannot_read name = codes "cannot read " ++ name ++ codes "\n"

-- memory was refused
abbrev pub no_memory : List ℕ
no_memory = codes "no memory\n"

-- the reply that refuses a file for this reason
pub record Refuses (name why : List ℕ) (s : Status) (text : List ℕ) : Type 0 where
  pub status_is : s ≡ status.Input
  pub text_is : text ≡ refused name why

-- the reply that a file could not be read
pub record Unread (name : List ℕ) (s : Status) (text : List ℕ) : Type 0 where
  pub status_is : s ≡ status.ShelfFault
  pub text_is : text ≡ cannot_read name
