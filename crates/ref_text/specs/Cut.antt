-- A line that was cut out of the values of its words.

use Rattle.std.specs.Prelude.{map}
use Rattle.ref_text.specs.Form.{Written, literal_of, size_of}
use Rattle.ref_text.specs.declared.forms.CutLine.{CutLine}

-- what it writes
abbrev pub written_of : CutLine → Written
written_of cut = record {
  number = cut.number;
  line = record { clause = map literal_of cut.literals.now; hints = map size_of cut.hints.now };
}
