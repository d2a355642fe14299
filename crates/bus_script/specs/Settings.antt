-- The settings of a clock line, and the buses that they give. The keys are this project's own choice.
use Rattle.std.specs.Prelude.{ℕ, ◌^◌, Bool, nat_le, List, [], ◌∷◌, ◌++◌, Option, Some, None, is_some, unwrap_or, Result, Ok, Err, codes, if◌then◌else◌}
use Rattle.std.specs.Str.{bytes_eq}
use Rattle.field_decl.specs.Results.{◌>>=◌}
use Rattle.field_decl.specs.declared.word.Word.{Word}
use Rattle.field_decl.specs.declared.word.Word.TheVariants.{Name, Number, Equals}
use Rattle.bus_script.specs.declared.buses.Buses.{Buses}
use Rattle.bus_script.specs.declared.fault.ScriptKind.{ScriptKind}
use Rattle.bus_script.specs.declared.fault.ScriptKind.TheVariants as kinds
use Rattle.bus_script.specs.declared.setting.Setting.{Setting}

-- these settings, then the others
abbrev pub with_front : List Setting → Result (List Setting) ScriptKind → Result (List Setting) ScriptKind
with_front front (Ok others) = Ok (front ++ others)
with_front front (Err kind) = Err kind

-- KEY = NUMBER, any number of times
abbrev pub settings_of : List Word → Result (List Setting) ScriptKind
settings_of [] = Ok []
settings_of (Name key ∷ Equals ∷ Number value ∷ words) = with_front (record { key = key; value = value } ∷ []) (settings_of words)
settings_of _ = Err kinds.Shape

-- ---- which settings are refused

-- the value that settings give to a key, the first where there are more
abbrev pub value_of : List ℕ → List Setting → Option ℕ
value_of key [] = None
value_of key (setting ∷ settings) = if bytes_eq setting.key key then Some setting.value else value_of key settings

-- what the value of a key is below in an array of this many slices: m and i have 2 bits a slice, px and sx have 4; there
-- is no other key
abbrev pub bound_of : ℕ → List ℕ → Option ℕ
bound_of slices key =
    if bytes_eq key (codes "m") then Some (4 ^ slices)
    else if bytes_eq key (codes "i") then Some (4 ^ slices)
    else if bytes_eq key (codes "px") then Some 16
    else if bytes_eq key (codes "sx") then Some 16
    else None

-- no such key; given before; not below the bound
abbrev pub value_refusal : Bool → ℕ → Option ℕ → Option ScriptKind
value_refusal twice value None = Some kinds.Key
value_refusal twice value (Some bound) = if twice then Some kinds.Twice else if nat_le bound value then Some kinds.Value else None

-- why a setting is refused after the earlier ones of its line
abbrev pub setting_refusal : ℕ → List Setting → Setting → Option ScriptKind
setting_refusal slices earlier setting =
    value_refusal (is_some (value_of setting.key earlier)) setting.value (bound_of slices setting.key)

-- the first refusal of two
abbrev pub or_else : Option ScriptKind → Option ScriptKind → Option ScriptKind
or_else None later = later
or_else (Some kind) later = Some kind

-- why the first refused of these settings is refused, after earlier ones
unfoldable pub settings_refusal : ℕ → List Setting → List Setting → Option ScriptKind
settings_refusal slices earlier [] = None
settings_refusal slices earlier (setting ∷ later) =
    or_else (setting_refusal slices earlier setting) (settings_refusal slices (earlier ++ setting ∷ []) later)

-- ---- what accepted settings give

-- a key that is not given is 0, and m that is not given leaves the M bus to the memory
abbrev pub buses_by : List Setting → Buses
buses_by settings = record {
  m = value_of (codes "m") settings;
  i = unwrap_or (value_of (codes "i") settings) 0;
  px = unwrap_or (value_of (codes "px") settings) 0;
  sx = unwrap_or (value_of (codes "sx") settings) 0;
}

-- what was read, unless it is refused
abbrev pub unless_refused : {A : Type 0} → Option ScriptKind → A → Result A ScriptKind
unless_refused None read = Ok read
unless_refused (Some kind) read = Err kind

-- the buses that the words after `clk` give
abbrev pub clock_buses : ℕ → List Word → Result Buses ScriptKind
clock_buses slices words = settings_of words >>= λ settings. unless_refused (settings_refusal slices [] settings) (buses_by settings)
