-- What a reader of refutation lines has read, byte by byte, and what it tells. This project's own.

use Rattle.std.specs.Prelude.{ℕ, ◌+◌, ◌==◌, Bool, false, if◌then◌else◌, List, [], ◌∷◌, ◌++◌, length, take, Option, Some, None}
use Rattle.std.specs.List.{position_or_len}
use Rattle.clause_base.specs.declared.line.Line.{Line}
use Rattle.ref_text.specs.Form.{form}
use Rattle.ref_text.specs.Fault.{text_fault, line_of, is_empty}
use Rattle.ref_text.specs.declared.why.Why.{Why}
use Rattle.ref_text.specs.declared.why.Why.TheVariants as why
use Rattle.ref_text.specs.declared.events.Event.{Event}
use Rattle.ref_text.specs.declared.events.Event.TheVariants as event
use Rattle.ref_text.specs.declared.events.Fed.{Fed}

-- a reader as a contract sees it
pub record Reader : Type 0 where
  -- the number of variables of the list
  pub vars : ℕ
  -- how many lines were read
  pub count : ℕ
  -- the number that the next line should have
  pub number : ℕ
  -- whether a line without literals was read
  pub over : Bool
  -- the bytes of the line that is begun
  pub begun : List ℕ
  -- why that line is refused, after its LF
  pub bad : Option Why
  -- the last line that was read, with no literal and no hint before the first
  pub last : Line
  -- whether memory was refused
  pub failed : Bool

-- before the first line
abbrev pub first : ℕ → ℕ → Reader
first number vars = record {
  vars = vars;
  count = 0;
  number = number;
  over = false;
  begun = [];
  bad = None;
  last = record { clause = []; hints = [] };
  failed = false;
}

-- one more line was read
abbrev pub with_line : Reader → Line → Reader
with_line r line = record {
  vars = r.vars;
  count = r.count + 1;
  number = r.number + 1;
  over = is_empty line;
  begun = [];
  bad = None;
  last = line;
  failed = r.failed;
}

-- the line that was begun is refused
abbrev pub with_bad : Reader → Why → Reader
with_bad r why = record {
  vars = r.vars;
  count = r.count;
  number = r.number;
  over = r.over;
  begun = [];
  bad = Some why;
  last = r.last;
  failed = r.failed;
}

-- more bytes of the line that is begun
abbrev pub with_bytes : Reader → List ℕ → Reader
with_bytes r bytes = record {
  vars = r.vars;
  count = r.count;
  number = r.number;
  over = r.over;
  begun = r.begun ++ bytes;
  bad = r.bad;
  last = r.last;
  failed = r.failed;
}

-- after a line that is read or refused
abbrev pub judged : Reader → Option Why → Reader
judged r None = with_line r (line_of (form r.begun))
judged r (Some why) = with_bad r why

-- after the LF of the line that is begun
abbrev pub at_end : Reader → Reader
at_end r = judged r (text_fault r.number r.vars r.over r.begun)

-- what a reader that has just read an LF tells
abbrev pub told : ℕ → Option Why → Event
told count None = event.Line
told count (Some why) = event.Bad (count + 1) why

-- the number of bytes before the first LF
abbrev pub lf_at : List ℕ → ℕ
lf_at piece = position_or_len (λ b. b == 10) piece

-- how a piece is taken: to its end where it has no LF, else through the first LF
abbrev pub fed_good : Reader → List ℕ → Fed
fed_good r piece =
    if lf_at piece == length piece then record { used = length piece; event = event.More }
    else record { used = lf_at piece + 1; event = told r.count (at_end (with_bytes r (take (lf_at piece) piece))).bad }

-- the reader after a piece
abbrev pub after_good : Reader → List ℕ → Reader
after_good r piece =
    if lf_at piece == length piece then with_bytes r piece
    else at_end (with_bytes r (take (lf_at piece) piece))

-- what a call of `feed` tells: a reader that has refused a line tells that for ever and uses nothing
abbrev pub fed_of : Option Why → Reader → List ℕ → Fed
fed_of None r piece = fed_good r piece
fed_of (Some why) r piece = record { used = 0; event = event.Bad (r.count + 1) why }

-- the reader after a call of `feed`
abbrev pub after_feed : Option Why → Reader → List ℕ → Reader
after_feed None r piece = after_good r piece
after_feed (Some why) r piece = r

-- at the end of the text: a line that is begun is not of the form
abbrev pub at_text_end : ℕ → Option Why → List ℕ → Event
at_text_end count (Some why) begun = event.Bad (count + 1) why
at_text_end count None [] = event.End
at_text_end count None (b ∷ bs) = event.Bad (count + 1) why.Text
