-- Why a refutation line is refused by its text, in the order of the answers. This project's own.

use Rattle.std.specs.Prelude.{ℕ, ℤ, ◌==◌, ◌&&◌, not, Bool, true, false, if◌then◌else◌, nat_lt, nat_le, List, [], ◌∷◌, length, Option, Some, None}
use Rattle.std.specs.List.{list_all, list_any}
use Rattle.clause_base.specs.Lit.{var_of}
use Rattle.clause_base.specs.declared.line.Line.{Line}
use Rattle.ref_text.specs.Form.{Written, form}
use Rattle.ref_text.specs.declared.why.Why.{Why}
use Rattle.ref_text.specs.declared.why.Why.TheVariants as why

-- a variable of the list
abbrev pub is_variable : ℕ → ℕ → Bool
is_variable vars v = nat_le 1 v && nat_le v vars

-- each literal is of a variable of the list, and no variable comes twice, with whatever signs
unfoldable pub are_literals : ℕ → List ℤ → Bool
are_literals vars [] = true
are_literals vars (z ∷ zs) = is_variable vars (var_of z) && not (list_any (λ y. var_of y == var_of z) zs) && are_literals vars zs

-- there is a hint, and each is below the line's number
abbrev pub are_hints : ℕ → List ℕ → Bool
are_hints number hints = nat_lt 0 (length hints) && list_all (λ hint. nat_lt hint number) hints

-- why a line is refused that should have this number; `over` says whether an earlier line had no literal
abbrev pub written_fault : ℕ → ℕ → Bool → Option Written → Option Why
written_fault number vars over None = Some why.Text
written_fault number vars true (Some written) = Some why.After
written_fault number vars false (Some written) =
    if not (written.number == number) then Some why.Number
    else if not (are_literals vars written.line.clause) then Some why.Literal
    else if not (are_hints written.number written.line.hints) then Some why.Hint
    else None

-- why a line is refused by its text, without its LF
abbrev pub text_fault : ℕ → ℕ → Bool → List ℕ → Option Why
text_fault number vars over line = written_fault number vars over (form line)

-- the line that is written, none where nothing is
abbrev pub line_of : Option Written → Line
line_of None = record { clause = []; hints = [] }
line_of (Some written) = written.line

-- the line has no literal
abbrev pub is_empty : Line → Bool
is_empty line = length line.clause == 0
