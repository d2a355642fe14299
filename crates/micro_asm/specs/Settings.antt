-- The settings of an instruction: flag functions and values of user fields (this project's own choice).
use Rattle.std.specs.Prelude.{ℕ, ◌^◌, Bool, false, nat_le, List, [], ◌∷◌, ◌++◌, map, Option, Some, None, is_some, unwrap_or, find, codes, if◌then◌else◌}
use Rattle.std.specs.List.{list_any}
use Rattle.std.specs.Str.{bytes_eq}
use Rattle.mcu_chip.specs.declared.flags.FlagIn.{FlagIn}
use Rattle.mcu_chip.specs.declared.flags.FlagIn.TheVariants.{Scz, Stz, Stc, Hcz}
use Rattle.mcu_chip.specs.declared.flags.FlagOut.{FlagOut}
use Rattle.mcu_chip.specs.declared.flags.FlagOut.TheVariants.{Ff0, Ffc, Ffz, Ff1}
use Rattle.mcu_chip.specs.declared.flags.FlagCtl.{FlagCtl}
use Rattle.field_decl.specs.declared.field.Field.{Field}
use Rattle.field_decl.specs.declared.fault.AsmKind.{AsmKind}
use Rattle.field_decl.specs.declared.fault.AsmKind.TheVariants as kinds
use Rattle.micro_asm.specs.declared.setting.Setting.{Setting}
use Rattle.micro_asm.specs.declared.setting.Setting.TheVariants.{Flag, Value}

-- ---- the names of the flag functions

-- the flag input function of a name
abbrev pub input_named : List ℕ → Option FlagIn
input_named name =
    if bytes_eq name (codes "SCZ") then Some Scz
    else if bytes_eq name (codes "STZ") then Some Stz
    else if bytes_eq name (codes "STC") then Some Stc
    else if bytes_eq name (codes "HCZ") then Some Hcz
    else None

-- the flag output function of a name
abbrev pub output_named : List ℕ → Option FlagOut
output_named name =
    if bytes_eq name (codes "FF0") then Some Ff0
    else if bytes_eq name (codes "FFC") then Some Ffc
    else if bytes_eq name (codes "FFZ") then Some Ffz
    else if bytes_eq name (codes "FF1") then Some Ff1
    else None

-- ---- which settings are refused

-- the setting names a flag input function
abbrev pub sets_input : Setting → Bool
sets_input (Flag name) = is_some (input_named name)
sets_input (Value name value) = false

-- the setting names a flag output function
abbrev pub sets_output : Setting → Bool
sets_output (Flag name) = is_some (output_named name)
sets_output (Value name value) = false

-- the setting gives a value to the field of this name
abbrev pub sets_field : List ℕ → Setting → Bool
sets_field name (Flag flag) = false
sets_field name (Value field value) = bytes_eq name field

-- the refusal of what was set before
abbrev pub if_twice : Bool → Option AsmKind
if_twice twice = if twice then Some kinds.SettingTwice else None

-- no flag function; a function of its class was set before
abbrev pub flag_refusal : List Setting → List ℕ → Option AsmKind
flag_refusal earlier name =
    if is_some (input_named name) then if_twice (list_any sets_input earlier)
    else if is_some (output_named name) then if_twice (list_any sets_output earlier)
    else Some kinds.FlagName

-- no field of the name; set before; not below 2^width
abbrev pub value_refusal : Bool → ℕ → Option Field → Option AsmKind
value_refusal twice value None = Some kinds.UnknownField
value_refusal twice value (Some field) =
    if twice then Some kinds.SettingTwice
    else if nat_le (2 ^ field.width) value then Some kinds.FieldValue
    else None

-- the declared field of a name
abbrev pub field_named : List Field → List ℕ → Option Field
field_named fields name = find (λ field. bytes_eq name field.name) fields

-- why a setting is refused after the earlier ones of its line
abbrev pub setting_refusal : List Field → List Setting → Setting → Option AsmKind
setting_refusal fields earlier (Flag name) = flag_refusal earlier name
setting_refusal fields earlier (Value name value) = value_refusal (list_any (sets_field name) earlier) value (field_named fields name)

-- the first refusal of two
abbrev pub or_else : Option AsmKind → Option AsmKind → Option AsmKind
or_else None later = later
or_else (Some kind) later = Some kind

-- why the first refused of these settings is refused, after earlier ones
unfoldable pub settings_refusal : List Field → List Setting → List Setting → Option AsmKind
settings_refusal fields earlier [] = None
settings_refusal fields earlier (setting ∷ later) =
    or_else (setting_refusal fields earlier setting) (settings_refusal fields (earlier ++ setting ∷ []) later)

-- ---- what accepted settings give

-- the first value of two that is given
abbrev pub given_first : {X : Type 0} → Option X → Option X → Option X
given_first (Some x) later = Some x
given_first None later = later

-- the flag input function that is set
unfoldable pub input_given : List Setting → Option FlagIn
input_given [] = None
input_given (Flag name ∷ later) = given_first (input_named name) (input_given later)
input_given (Value name value ∷ later) = input_given later

-- the flag output function that is set
unfoldable pub output_given : List Setting → Option FlagOut
output_given [] = None
output_given (Flag name ∷ later) = given_first (output_named name) (output_given later)
output_given (Value name value ∷ later) = output_given later

-- the value that is set for the field of this name
unfoldable pub value_given : List ℕ → List Setting → Option ℕ
value_given name [] = None
value_given name (Flag flag ∷ later) = value_given name later
value_given name (Value field value ∷ later) = if bytes_eq name field then Some value else value_given name later

-- flags are held, and the flag output is 0, where nothing is set
abbrev pub flags_given : List Setting → FlagCtl
flags_given settings = record { input = unwrap_or (input_given settings) Hcz; output = unwrap_or (output_given settings) Ff0 }

-- a field has its default where nothing is set
abbrev pub field_value : List Setting → Field → ℕ
field_value settings field = unwrap_or (value_given field.name settings) field.default

-- the values of all fields, in their order
abbrev pub values_given : List Field → List Setting → List ℕ
values_given fields settings = map (field_value settings) fields
