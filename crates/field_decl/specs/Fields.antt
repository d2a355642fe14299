-- The user fields of a microword. Their rules are this project's own choice.
use Rattle.std.specs.Prelude.{ℕ, ◌+◌, ◌^◌, Bool, true, false, not, ◌&&◌, ◌==◌, nat_lt, nat_le, List, [], ◌∷◌, Option, None, Some, sum_by, position, slice_get}
use Rattle.std.specs.List.{list_any}
use Rattle.std.specs.Str.{bytes_eq}
use Rattle.field_decl.specs.declared.field.Field.{Field}

-- a field of this name is among them
abbrev pub has_field : List Field → List ℕ → Bool
has_field fields name = list_any (λ field. bytes_eq name field.name) fields

-- a field is 1 to 32 bits wide, and its default fits
abbrev pub is_sized : Field → Bool
is_sized field = nat_le 1 field.width && nat_le field.width 32 && nat_lt field.default (2 ^ field.width)

-- no two fields have one name
abbrev pub are_distinct : List Field → Bool
are_distinct [] = true
are_distinct (field ∷ fields) = not (has_field fields field.name) && are_distinct fields

-- the bits of all fields together
abbrev pub widths : List Field → ℕ
widths fields = sum_by (λ field. field.width) fields

-- the bits of a microword: 18 for jump, flags and function, then the K bits and the fields
abbrev pub word_bits : ℕ → List Field → ℕ
word_bits kbus fields = 18 + kbus + widths fields

-- a field of this name that is one bit wide can be the write field
abbrev pub can_write : List ℕ → Field → Bool
can_write name field = bytes_eq name field.name && field.width == 1

-- where the write field of this name stands
abbrev pub write_place : List Field → List ℕ → Option ℕ
write_place fields name = position (can_write name) fields

-- there is a field, and it is one bit wide
abbrev pub is_one_bit : Option Field → Bool
is_one_bit None = false
is_one_bit (Some field) = field.width == 1

-- the write field, where there is one, is one bit wide
abbrev pub is_write : Option ℕ → List Field → Bool
is_write None fields = true
is_write (Some place) fields = is_one_bit (slice_get fields place)
