-- The answer for a refutation's text: its lines are judged from the first, each against the clauses of the list and of
-- all lines before it. The order of the answers is this project's own.

use Rattle.std.specs.Prelude.{ℕ, neg_ℤ, ◌+◌, ◌==◌, not, Bool, true, false, List, [], ◌∷◌, ◌++◌, length, map, Option, Some, None}
use Rattle.std.specs.List.{slice_split}
use Rattle.clause_base.specs.Clauses.{Clauses}
use Rattle.clause_base.specs.declared.line.Line.{Line}
use Rattle.ref_text.specs.Form.{form}
use Rattle.ref_text.specs.Fault.{text_fault, line_of, is_empty}
use Rattle.ref_text.specs.declared.why.Why.{Why}
use Rattle.ref_text.specs.declared.why.Why.TheVariants as why
use Rattle.refute_check.specs.Hints.{judged}
use Rattle.refute_check.specs.declared.checked.Checked.{Checked}
use Rattle.refute_check.specs.declared.checked.Checked.TheVariants as checked

-- how far the whole lines of a text go
pub record Progress : Type 0 where
  -- how many lines were read, each derived
  pub count : ℕ
  -- whether the last of them has no literal
  pub over : Bool
  -- why the next line is refused, if it is
  pub bad : Option Why
  -- whether bytes stand behind the last LF, where no line is refused
  pub begun : Bool

-- the pieces of a text before, between and behind its LFs: its lines, and what stands behind the last LF
abbrev pub lines_of : List ℕ → List (List ℕ)
lines_of bytes = slice_split (λ b. b == 10) bytes

-- why a line is refused by its hints, where its text is right
abbrev pub or_hints : Clauses → Line → Option Why → Option Why
or_hints list line (Some why) = Some why
or_hints list line None = judged list.clauses (map neg_ℤ line.clause) line.hints

-- why the next line is refused, where the list has the clauses of the lines before it too; `over` says whether one of
-- these lines has no literal
abbrev pub line_fault : Clauses → Bool → List ℕ → Option Why
line_fault list over line = or_hints list (line_of (form line)) (text_fault (length list.clauses + 1) list.vars over line)

-- the list with the clause of a line
abbrev pub with_line : Clauses → Line → Clauses
with_line list line = record { vars = list.vars; clauses = list.clauses ++ line.clause ∷ [] }

-- the first refused line ends the reading; else the further lines are judged
abbrev pub or_further : ℕ → Bool → Option Why → Progress → Progress
or_further count over None further = further
or_further count over (Some why) further = record { count = count; over = over; bad = Some why; begun = false }

-- bytes stand behind the last LF
abbrev pub has_begun : List ℕ → Bool
has_begun rest = not (length rest == 0)

-- how far the whole lines of a text go, where so many lines were read before
unfoldable pub progress : Clauses → ℕ → Bool → List (List ℕ) → Progress
progress list count over [] = record { count = count; over = over; bad = None; begun = false }
progress list count over (rest ∷ []) = record { count = count; over = over; bad = None; begun = has_begun rest }
progress list count over (line ∷ (next ∷ parts)) =
    or_further count over (line_fault list over line)
    (progress (with_line list (line_of (form line))) (count + 1) (is_empty (line_of (form line))) (next ∷ parts))

-- the answer at the end of a text of right lines
abbrev pub ended : ℕ → Bool → Checked
ended count true = checked.Refutes count
ended count false = checked.Derived count

-- a line that is begun at the end of the text is not of the form
abbrev pub verdict_of : ℕ → Bool → Option Why → Bool → Checked
verdict_of count over (Some why) begun = checked.Rejected (count + 1) why
verdict_of count over None true = checked.Rejected (count + 1) why.Text
verdict_of count over None false = ended count over

-- the answer for how far the lines go
abbrev pub verdict : Progress → Checked
verdict p = verdict_of p.count p.over p.bad p.begun

-- the answer for a text
abbrev pub check : Clauses → List ℕ → Checked
check list bytes = verdict (progress list 0 false (lines_of bytes))
