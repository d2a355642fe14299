-- How the lines of a text are judged while it comes in pieces.

use Rattle.std.specs.Prelude.{ℕ, ℤ, ◌+◌, ◌<◌, ◌≤◌, ◌≡◌, ◌^◌, ◌==◌, Bool, false, List, [], ◌∷◌, ◌++◌, length, take, All, Option, Some, None}
use Rattle.clause_base.specs.Clauses.{Clauses}
use Rattle.ref_text.specs.Form.{form}
use Rattle.ref_text.specs.Fault.{line_of, is_empty}
use Rattle.ref_text.specs.Reading.{lf_at}
use Rattle.ref_text.specs.declared.why.Why.{Why}
use Rattle.refute_check.specs.Check.{Progress, lines_of, line_fault, progress}
use Rattle.refute_check.specs.Cost.{line_cost, lines_cost}
use Rattle.refute_check.specs.Known.{IsKnown, with_derived}
use Rattle.refute_check.specs.declared.judge.Judge.{Judge}
use Rattle.refute_check.specs.declared.judge.NextLine.{NextLine}
use Rattle.refute_check.specs.declared.judge.NextLine.TheVariants as next

-- where the judging of a text stands: the bytes of the line that is begun, the clauses of the derived lines, and whether
-- the last of them has no literal
pub record Spot : Type 0 where
  pub begun : List ℕ
  pub derived : List (List ℤ)
  pub over : Bool

-- where a judge stands
abbrev pub spot_of : Judge → Spot
spot_of judge = record { begun = judge.reader.begun; derived = judge.known.derived; over = judge.over }

-- before the first line
abbrev pub at_start : Spot
at_start = record { begun = []; derived = []; over = false }

-- how far the lines go that come behind this place
abbrev pub further : Clauses → Spot → List (List ℕ) → Progress
further list spot lines = progress (with_derived list spot.derived) (length spot.derived) spot.over lines

-- why a line is refused that comes next
abbrev pub fault_at : Clauses → Spot → List ℕ → Option Why
fault_at list spot line = line_fault (with_derived list spot.derived) spot.over line

-- a judge between two bytes of a text, where no line was refused and so many literals were given
pub record Stands (list : Clauses) (judge : Judge) (given : ℕ) : Type 0 where
  pub known : IsKnown list judge.known given
  pub signs : judge.signs.vars ≡ list.vars
  pub vars : judge.reader.vars ≡ list.vars
  pub number : judge.reader.number ≡ length list.clauses + length judge.known.derived + 1
  pub counted : judge.reader.count ≡ length judge.known.derived
  pub few : length list.clauses + length judge.known.derived < 2 ^ 32
  pub over_is : judge.reader.over ≡ judge.over
  pub bad : judge.reader.bad ≡ None
  pub failed : judge.reader.failed ≡ false
  pub no_lf : All (λ b. (b == 10) ≡ false) judge.reader.begun

-- bytes take the judging from one place to another by whole lines, each derived and none refused, for which at most their
-- cost was given
pub record Goes (list : Clauses) (old : Spot) (given : ℕ) (bytes : List ℕ) (new : Spot) (now : ℕ) : Type 0 where
  pub lines : List (List ℕ)
  pub cut : (more : List ℕ) → lines_of (old.begun ++ (bytes ++ more)) ≡ lines ++ lines_of (new.begun ++ more)
  pub counted : length new.derived ≡ length old.derived + length lines
  pub so_far : (part : List ℕ) (parts : List (List ℕ)) → further list old (lines ++ part ∷ parts) ≡ further list new (part ∷ parts)
  pub within : now ≤ given + lines_cost list.clauses lines

-- whatever follows these bytes, the line behind so many lines is refused; at most the cost of the lines to it was given
pub record Refuses (list : Clauses) (old : Spot) (given : ℕ) (bytes : List ℕ) (why : Why) (lines now : ℕ) : Type 0 where
  pub count : (more : List ℕ) → (further list old (lines_of (old.begun ++ (bytes ++ more)))).count ≡ length old.derived + lines
  pub bad : (more : List ℕ) → (further list old (lines_of (old.begun ++ (bytes ++ more)))).bad ≡ Some why
  pub within : (more : List ℕ) → now ≤ given + lines_cost list.clauses (take (lines + 1) (lines_of (old.begun ++ (bytes ++ more))))

-- memory was refused in these bytes: whatever follows, so many lines are derived, and at most their cost and that of the
-- next line was given
pub record StopsIn (list : Clauses) (old : Spot) (given : ℕ) (bytes : List ℕ) (now : ℕ) : Type 0 where
  pub lines : ℕ
  pub reached : (more : List ℕ) → length old.derived + lines ≤ (further list old (lines_of (old.begun ++ (bytes ++ more)))).count
  pub within : (more : List ℕ) → now ≤ given + lines_cost list.clauses (take (lines + 1) (lines_of (old.begun ++ (bytes ++ more))))

-- the line that ends at the first LF of a piece
abbrev pub first_line : Spot → List ℕ → List ℕ
first_line spot piece = spot.begun ++ take (lf_at piece) piece

-- what the front of a piece brings: bytes of a line, a line that is refused, or one that is derived
abbrev pub Brings : Clauses → Spot → ℕ → List ℕ → NextLine → Spot → ℕ → Type 0
Brings list old given piece next.End new now =
    (lf_at piece ≡ length piece) × (new ≡ record { begun = old.begun ++ piece; derived = old.derived; over = old.over }) × (now ≡ given)
Brings list old given piece (next.Bad why) new now =
    (lf_at piece < length piece) × (fault_at list old (first_line old piece) ≡ Some why) × (length new.derived ≡ length old.derived)
    × (now ≤ given + line_cost list.clauses (first_line old piece))
Brings list old given piece (next.Line used) new now =
    (lf_at piece < length piece) × (used ≡ lf_at piece + 1) × (fault_at list old (first_line old piece) ≡ None)
    × (new ≡ record {
      begun = [];
      derived = old.derived ++ (line_of (form (first_line old piece))).clause ∷ [];
      over = is_empty (line_of (form (first_line old piece)));
    })
    × (now ≤ given + line_cost list.clauses (first_line old piece))

-- a line was refused or none, after bytes
abbrev pub Judges : Clauses → Spot → ℕ → List ℕ → Option Why → Spot → ℕ → Type 0
Judges list old given bytes None new now = Goes list old given bytes new now
Judges list old given bytes (Some why) new now =
    (lines : ℕ) × (length new.derived ≡ length old.derived + lines) × Refuses list old given bytes why lines now

-- after bytes that brought no refused line a judge stands
abbrev pub StandsAfter : Clauses → Option Why → Judge → ℕ → Type 0
StandsAfter list None judge given = Stands list judge given
StandsAfter list (Some why) judge given = Unit {0}

-- the same of what the front of a piece brings
abbrev pub StandsOn : Clauses → NextLine → Judge → ℕ → Type 0
StandsOn list next.End judge given = Stands list judge given
StandsOn list (next.Bad why) judge given = Unit {0}
StandsOn list (next.Line used) judge given = Stands list judge given
