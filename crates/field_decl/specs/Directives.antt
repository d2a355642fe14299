-- The forms of the lines that declare chips, K bus, fields, PROMs and the write field (this project's own choice).
use Rattle.std.specs.Prelude.{ℕ, List, [], ◌∷◌, Result, Ok, Err, codes, if◌then◌else◌}
use Rattle.std.specs.Str.{bytes_eq}
use Rattle.field_decl.specs.declared.word.Word.{Word}
use Rattle.field_decl.specs.declared.word.Word.TheVariants.{Name, Number}
use Rattle.field_decl.specs.declared.directive.Directive.{Directive}
use Rattle.field_decl.specs.declared.directive.Directive.TheVariants.{Slices, KBus, Field, Prom, Write}
use Rattle.field_decl.specs.declared.fault.AsmKind.{AsmKind}
use Rattle.field_decl.specs.declared.fault.AsmKind.TheVariants as kinds

-- the line `slices NUMBER`
abbrev pub slices_form : List Word → Result Directive AsmKind
slices_form (Number slices ∷ []) = Ok (Slices slices)
slices_form _ = Err kinds.Shape

-- the line `kbus NUMBER`
abbrev pub kbus_form : List Word → Result Directive AsmKind
kbus_form (Number kbus ∷ []) = Ok (KBus kbus)
kbus_form _ = Err kinds.Shape

-- the line `field NAME WIDTH DEFAULT`
abbrev pub field_form : List Word → Result Directive AsmKind
field_form (Name name ∷ Number width ∷ Number default ∷ []) = Ok (Field name width default)
field_form _ = Err kinds.Shape

-- the line `prom WORDS BITS`
abbrev pub prom_form : List Word → Result Directive AsmKind
prom_form (Number words ∷ Number bits ∷ []) = Ok (Prom words bits)
prom_form _ = Err kinds.Shape

-- the line `write NAME`
abbrev pub write_form : List Word → Result Directive AsmKind
write_form (Name name ∷ []) = Ok (Write name)
write_form _ = Err kinds.Shape

-- the directive of this name with these words behind it
unfoldable pub directive_form : List ℕ → List Word → Result Directive AsmKind
directive_form name words =
    if bytes_eq name (codes "slices") then slices_form words
    else if bytes_eq name (codes "kbus") then kbus_form words
    else if bytes_eq name (codes "field") then field_form words
    else if bytes_eq name (codes "prom") then prom_form words
    else if bytes_eq name (codes "write") then write_form words
    else Err kinds.UnknownDirective
