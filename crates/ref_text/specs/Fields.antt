-- What a contract sees of the fields of a reader, and what they keep.

use Rattle.std.specs.Prelude.{◌≡◌, ◌+◌, ◌<◌, ◌≤◌, ◌^◌, length}
use Rattle.ref_text.specs.Marks.{AreClear}
use Rattle.ref_text.specs.Reading.{Reader}
use Rattle.ref_text.specs.declared.line_reader.LineReader.TheInside.{Inside}

-- what a contract sees of the fields of a reader
abbrev pub reader_of : Inside → Reader
reader_of l = record {
  vars = l.vars;
  count = l.count;
  number = l.number;
  over = l.over;
  begun = l.begun.items;
  bad = l.bad;
  last = record { clause = l.clause.items; hints = l.hints.items };
  failed = l.failed;
}

-- what the fields keep: the numbers fit, there is a mark for each variable, and between lines none is marked
pub record IsReader (l : Inside) : Type 0 where
  pub few_vars : l.vars < 2 ^ 31
  pub numbered : l.number ≤ 2 ^ 32
  pub counted : l.count < l.number
  pub sized : length l.marks.items ≡ l.vars + 1
  pub clear : AreClear l.marks.items
