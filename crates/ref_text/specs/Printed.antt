-- A printed line of a refutation, as it is read back. This project's own.

use Rattle.std.specs.Prelude.{ℕ, ◌<◌, ◌^◌, ◌≡◌, ◌==◌, false, List, [], ◌∷◌, ◌++◌, Some, All}
use Rattle.clause_base.specs.Lit.{var_of}
use Rattle.clause_base.specs.declared.line.Line.{Line}
use Rattle.ref_text.specs.Form.{form}

-- numbers that a text can hold: below 2^32, and no literal and no hint is 0
pub record CanBeRead (number : ℕ) (line : Line) : Type 0 where
  pub small : number < 2 ^ 32
  pub literals : All (λ z. (0 < var_of z) × (var_of z < 2 ^ 32)) line.clause
  pub hints : All (λ hint. (0 < hint) × (hint < 2 ^ 32)) line.hints

-- a text is one line, its LF at the end, and what stands before the LF says just this
pub record SaysLine (text : List ℕ) (number : ℕ) (line : Line) : Type 0 where
  pub body : List ℕ
  pub ended : text ≡ body ++ 10 ∷ []
  pub one_line : All (λ b. (b == 10) ≡ false) body
  pub says : form body ≡ Some (record { number = number; line = line })
