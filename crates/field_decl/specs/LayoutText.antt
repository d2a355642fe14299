-- The layout text of a declaration. This is this project's own format.
use Rattle.std.specs.Prelude.{ℕ, List, [], ◌∷◌, ◌++◌, Option, Some, None, codes, decimal, slice_get}
use Rattle.micro_lex.specs.declared.token.TokenKind.TheVariants.{Name, Number}
use Rattle.field_decl.specs.Spaced.{Run, spaced}
use Rattle.field_decl.specs.declared.field.Field.{Field}
use Rattle.field_decl.specs.Declaration.{Declaration}

-- a word as it is printed
abbrev pub name_run : List ℕ → Run
name_run text = (text, Name)

-- a decimal number as it is printed
abbrev pub number_run : ℕ → Run
number_run number = (decimal number, Number number)

-- the runs with one space between each two, and LF
abbrev pub printed : List Run → List ℕ
printed runs = spaced runs ++ 10 ∷ []

-- the words of the line of the slices
abbrev pub slices_runs : ℕ → List Run
slices_runs slices = name_run (codes "slices") ∷ number_run slices ∷ []

-- the words of the line of the K bits
abbrev pub kbus_runs : ℕ → List Run
kbus_runs kbus = name_run (codes "kbus") ∷ number_run kbus ∷ []

-- the words of a field's line
abbrev pub field_runs : Field → List Run
field_runs field = name_run (codes "field") ∷ name_run field.name ∷ number_run field.width ∷ number_run field.default ∷ []

-- the words of the line of the PROMs
abbrev pub prom_runs : ℕ → ℕ → List Run
prom_runs words bits = name_run (codes "prom") ∷ number_run words ∷ number_run bits ∷ []

-- the words of the line of the write field
abbrev pub write_runs : List ℕ → List Run
write_runs name = name_run (codes "write") ∷ name_run name ∷ []

-- a line for each field, in order
abbrev pub fields_text : List Field → List ℕ
fields_text [] = []
fields_text (field ∷ fields) = printed (field_runs field) ++ fields_text fields

-- the line of the write field, by its name, where there is one
abbrev pub write_line : Option Field → List ℕ
write_line None = []
write_line (Some field) = printed (write_runs field.name)

-- the line of the write field, by its place among the fields, where there is one
abbrev pub write_text : Option ℕ → List Field → List ℕ
write_text None fields = []
write_text (Some place) fields = write_line (slice_get fields place)

-- slices, K bus, fields, PROMs, and the write field where there is one
unfoldable pub layout_text : Declaration → List ℕ
layout_text decl =
    printed (slices_runs decl.slices)
    ++ (printed (kbus_runs decl.kbus)
    ++ (fields_text decl.fields ++ (printed (prom_runs decl.prom_words decl.prom_bits) ++ write_text decl.write decl.fields)))
