-- The steps that read the words after `clk`: the first setting, and what is given with each setting more.
use Rattle.std.specs.Prelude.{ℕ, ◌≡◌, ◌<◌, ◌^◌, nat_le, List, [], ◌∷◌, length, Option, Some, None, is_some, unwrap_or, Result, Ok, Err, codes, if◌then◌else◌}
use Rattle.std.specs.Str.{bytes_eq}
use Rattle.field_decl.specs.Results.{◌>>=◌}
use Rattle.field_decl.specs.declared.word.Word.{Word}
use Rattle.bus_script.specs.declared.buses.Buses.{Buses}
use Rattle.bus_script.specs.declared.fault.ScriptKind.{ScriptKind}
use Rattle.bus_script.specs.declared.fault.ScriptKind.TheVariants as kinds
use Rattle.bus_script.specs.declared.setting.Given.{Given}
use Rattle.bus_script.specs.declared.setting.Setting.{Setting}
use Rattle.bus_script.specs.Settings.{settings_of, with_front}

-- where no setting is first, the words have ended or are not of the form
abbrev pub ended : List Word → Result (List Setting) ScriptKind
ended [] = Ok []
ended (word ∷ words) = Err kinds.Shape

-- the setting is first, and the rest follows it
pub record IsFirstSetting (words : List Word) (setting : Setting) (rest : List Word) : Type 0 where
  pub goes_on : settings_of words ≡ with_front (setting ∷ []) (settings_of rest)
  pub shorter : length rest < length words

-- no key was given yet
abbrev pub nothing_given : Given
nothing_given = record { m = None; i = None; px = None; sx = None }

-- the value of a key: refused where the key was given before, and then where it is not below the bound
abbrev pub fresh_value : Option ℕ → ℕ → ℕ → Result ℕ ScriptKind
fresh_value given bound value = if is_some given then Err kinds.Twice else if nat_le bound value then Err kinds.Value else Ok value

-- what is given with a setting more, in an array of this many slices: m and i have 2 bits a slice, px and sx have 4
unfoldable pub with_setting : ℕ → Given → Setting → Result Given ScriptKind
with_setting slices given setting =
    if bytes_eq setting.key (codes "m") then (fresh_value given.m (4 ^ slices) setting.value >>= λ m. Ok (record given { m = Some m }))
    else if bytes_eq setting.key (codes "i") then
    (fresh_value given.i (4 ^ slices) setting.value >>= λ i. Ok (record given { i = Some i }))
    else if bytes_eq setting.key (codes "px") then (fresh_value given.px 16 setting.value >>= λ px. Ok (record given { px = Some px }))
    else if bytes_eq setting.key (codes "sx") then (fresh_value given.sx 16 setting.value >>= λ sx. Ok (record given { sx = Some sx }))
    else Err kinds.Key

-- what is given after these settings, from the left
unfoldable pub given_after : ℕ → Given → List Setting → Result Given ScriptKind
given_after slices given [] = Ok given
given_after slices given (setting ∷ settings) = with_setting slices given setting >>= λ more. given_after slices more settings

-- a key that is not given is 0, and m that is not given leaves the M bus to the memory
abbrev pub buses_from : Given → Buses
buses_from given = record { m = given.m; i = unwrap_or given.i 0; px = unwrap_or given.px 0; sx = unwrap_or given.sx 0 }

-- the buses that the words after `clk` give, a setting at a time
abbrev pub clock_steps : ℕ → List Word → Result Buses ScriptKind
clock_steps slices words = settings_of words >>= given_after slices nothing_given >>= λ given. Ok (buses_from given)
