-- A microword as one number, and its parts. The order of the parts is this project's own choice.
use Rattle.std.specs.Prelude.{ℕ, ◌<◌, ◌+◌, ◌*◌, ◌/◌, ◌%◌, ◌^◌, List, [], ◌∷◌}
use Rattle.mcu_jumps.specs.JumpWord.{IsJump, ac_of}
use Rattle.mcu_chip.specs.FlagWord.{fc_of}
use Rattle.field_decl.specs.Declaration.{Declaration}
use Rattle.field_decl.specs.Fields.{word_bits}
use Rattle.field_decl.specs.declared.field.Field.{Field}
use Rattle.flow_graph.specs.Microwords.{AreValues}
use Rattle.prom_split.specs.Codes.{jump_at, ctl_at}
use Rattle.prom_split.specs.declared.word_parts.WordParts.{WordParts}

-- the values of these fields in one number, the first field lowest
unfoldable pub joined : List Field → List ℕ → ℕ
joined [] values = 0
joined (field ∷ fields) [] = 0
joined (field ∷ fields) (value ∷ values) = value + 2 ^ field.width * joined fields values

-- the values of these fields that a number holds
unfoldable pub taken_apart : List Field → ℕ → List ℕ
taken_apart [] number = []
taken_apart (field ∷ fields) number = number % 2 ^ field.width ∷ taken_apart fields (number / 2 ^ field.width)

-- the bits of a microword of a declaration
abbrev pub width_of : Declaration → ℕ
width_of decl = word_bits decl.kbus decl.fields

-- the word of these parts: AC from bit 0, FC from bit 7, F from bit 11, the K bits from bit 18, then the fields
unfoldable pub word_by : Declaration → WordParts → ℕ
word_by decl parts =
    ac_of parts.jump + 2 ^ 7 * fc_of parts.ctl + 2 ^ 11 * parts.func + 2 ^ 18 * parts.kbits + 2 ^ (18 + decl.kbus)
    * joined decl.fields parts.values

-- the parts of a word
unfoldable pub parts_of : Declaration → ℕ → WordParts
parts_of decl word = record {
  jump = jump_at (word % 2 ^ 7);
  ctl = ctl_at (word / 2 ^ 7 % 2 ^ 4);
  func = word / 2 ^ 11 % 2 ^ 7;
  kbits = word / 2 ^ 18 % 2 ^ decl.kbus;
  values = taken_apart decl.fields (word / 2 ^ (18 + decl.kbus));
}

-- parts that a word of a declaration can hold
pub record FitParts (decl : Declaration) (parts : WordParts) : Type 0 where
  pub jump : IsJump parts.jump
  pub func : parts.func < 2 ^ 7
  pub kbits : parts.kbits < 2 ^ decl.kbus
  pub values : AreValues decl.fields parts.values
