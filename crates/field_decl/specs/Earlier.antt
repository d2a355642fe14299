-- What the directives of the earlier lines declare, and the defaults for the rest (this project's own choice).
use Rattle.std.specs.Prelude.{◌≡◌, ℕ, List, [], ◌∷◌, ◌++◌, Option, Some, None, unwrap_or, option_and_then}
use Rattle.std.specs.List.{filter_map}
use Rattle.field_decl.specs.declared.directive.Directive.{Directive}
use Rattle.field_decl.specs.declared.directive.Directive.TheVariants as directives
use Rattle.field_decl.specs.declared.field.Field.{Field}
use Rattle.field_decl.specs.Declaration.{Declaration, IsDeclaration}
use Rattle.field_decl.specs.Fields.{write_place}

-- each part as given, or None where no line gave it; the write field by its name
pub record Declared : Type 0 where
  pub slices : Option ℕ
  pub kbus : Option ℕ
  pub fields : List Field
  pub prom : Option (ℕ × ℕ)
  pub write : Option (List ℕ)

-- ---- each part, of the list of the earlier directives

-- the number of slices, where the directive gives it
abbrev pub slices_in : Directive → Option ℕ
slices_in (directives.Slices slices) = Some slices
slices_in _ = None

-- the number of K bits, where the directive gives it
abbrev pub kbus_in : Directive → Option ℕ
kbus_in (directives.KBus kbus) = Some kbus
kbus_in _ = None

-- the field, where the directive declares one
abbrev pub field_in : Directive → Option Field
field_in (directives.Field name width default) = Some (record { name = name; width = width; default = default })
field_in _ = None

-- words and bits of the PROMs, where the directive gives them
abbrev pub prom_in : Directive → Option (ℕ × ℕ)
prom_in (directives.Prom words bits) = Some (words, bits)
prom_in _ = None

-- the name of the write field, where the directive gives it
abbrev pub write_in : Directive → Option (List ℕ)
write_in (directives.Write name) = Some name
write_in _ = None

-- the first of a list, where there is one
abbrev pub first : {X : Type 0} → List X → Option X
first [] = None
first (x ∷ xs) = Some x

-- what these directives declare
abbrev pub declared_by : List Directive → Declared
declared_by earlier = record {
  slices = first (filter_map slices_in earlier);
  kbus = first (filter_map kbus_in earlier);
  fields = filter_map field_in earlier;
  prom = first (filter_map prom_in earlier);
  write = first (filter_map write_in earlier);
}

-- ---- what one directive more adds

-- the first that is given stands
abbrev pub given_or : {X : Type 0} → Option X → X → Option X
given_or (Some x) y = Some x
given_or None y = Some y

-- what is declared with one directive more
abbrev pub with_directive : Declared → Directive → Declared
with_directive declared (directives.Slices slices) = record declared { slices = given_or declared.slices slices }
with_directive declared (directives.KBus kbus) = record declared { kbus = given_or declared.kbus kbus }
with_directive declared (directives.Field name width default) =
    record declared { fields = declared.fields ++ record { name = name; width = width; default = default } ∷ [] }
with_directive declared (directives.Prom words bits) = record declared { prom = given_or declared.prom (words, bits) }
with_directive declared (directives.Write name) = record declared { write = given_or declared.write name }

-- ---- the whole of it

-- what was declared for this many slices, with the defaults for the rest: kbus 1, prom 512 4, no write field
abbrev pub declaration_with : ℕ → Declared → Declaration
declaration_with slices declared = record {
  slices = slices;
  kbus = unwrap_or declared.kbus 1;
  fields = declared.fields;
  prom_words = (unwrap_or declared.prom (512, 4)).0;
  prom_bits = (unwrap_or declared.prom (512, 4)).1;
  write = option_and_then (write_place declared.fields) declared.write;
}

-- the numbers of a declaration are in range and fit together
abbrev pub FitsTogether : Declaration → Type 0
FitsTogether d = IsDeclaration d.slices d.kbus d.fields d.prom_words d.prom_bits d.write

-- what was accepted so far fits together, one slice taken where none are given yet, and the K bus comes after the
-- slices
pub record IsSound (declared : Declared) : Type 0 where
  pub fits : FitsTogether (declaration_with (unwrap_or declared.slices 1) declared)
  pub ordered : declared.slices ≡ None → declared.kbus ≡ None
