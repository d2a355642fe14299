-- A declaration: the chips and the microword that a program is for. Its ranges are this project's own choice.
use Rattle.std.specs.Prelude.{◌≡◌, ℕ, ◌*◌, ◌%◌, ◌<◌, ◌≤◌, true, ◌||◌, ◌==◌, List, Option, All}
use Rattle.std.specs.List.{list_all}
use Rattle.micro_lex.specs.Names.{IsName}
use Rattle.field_decl.specs.declared.field.Field.{Field}
use Rattle.field_decl.specs.Fields.{is_sized, are_distinct, word_bits, is_write}

-- what a declaration says: slices, number of K bits, fields, words and bits of a PROM, place of the write field
pub record Declaration : Type 0 where
  pub slices : ℕ
  pub kbus : ℕ
  pub fields : List Field
  pub prom_words : ℕ
  pub prom_bits : ℕ
  pub write : Option ℕ

-- the numbers are in range and fit together
pub record IsDeclaration (slices kbus : ℕ) (fields : List Field) (prom_words prom_bits : ℕ) (write : Option ℕ) : Type 0 where
  pub some_slices : 1 ≤ slices
  pub most_slices : slices ≤ 16
  pub some_kbus : 0 < kbus
  -- each K bit drives as many bus bits as the others
  pub shared : 2 * slices % kbus ≡ 0
  pub named : All (λ field. IsName field.name) fields
  pub distinct : are_distinct fields ≡ true
  pub sized : list_all is_sized fields ≡ true
  pub word : word_bits kbus fields ≤ 96
  pub words : prom_words ≡ 512
  pub bits : (prom_bits == 4 || prom_bits == 8) ≡ true
  pub write_bit : is_write write fields ≡ true
