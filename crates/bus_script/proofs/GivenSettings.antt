-- What is given with each setting more is what the settings give together.
use Rattle.std.proofs.Common.{◌≡◌, ℕ, ◌^◌, Bool, true, false, List, [], ◌∷◌, ◌++◌, Option, Some, None, Result, Ok, Err, refl, sym, ap, subst, ◌∙◌, append_assoc, append-nil}
use Rattle.std.specs.Prelude.{nat_le, codes, if◌then◌else◌, is_some}
use Rattle.std.specs.Str.{bytes_eq}
use Rattle.std.specs.Cmp.Lexicographic.{bytes_decides}
use Rattle.field_decl.specs.Results.{◌>>=◌}
use Rattle.field_decl.specs.declared.word.Word.{Word}
use Rattle.bus_script.specs.declared.fault.ScriptKind.{ScriptKind}
use Rattle.bus_script.specs.declared.fault.ScriptKind.TheVariants as kinds
use Rattle.bus_script.specs.declared.setting.Given.{Given}
use Rattle.bus_script.specs.declared.setting.Setting.{Setting}
use Rattle.bus_script.specs.Settings.{settings_of, value_of, value_refusal, setting_refusal, or_else, settings_refusal, buses_by, unless_refused, clock_buses}
use Rattle.bus_script.specs.SettingSteps.{nothing_given, fresh_value, with_setting, given_after, buses_from, clock_steps}

-- what these settings give
abbrev given_of : List Setting → Given
given_of settings = record {
  m = value_of (codes "m") settings;
  i = value_of (codes "i") settings;
  px = value_of (codes "px") settings;
  sx = value_of (codes "sx") settings;
}

-- a setting of a key
abbrev setting_for : List ℕ → ℕ → Setting
setting_for key value = record { key = key; value = value }

-- the first value of two that is given
abbrev given_first : Option ℕ → Option ℕ → Option ℕ
given_first (Some value) later = Some value
given_first None later = later

-- what settings give to a key with one more at their end
value_push : (key : List ℕ) (settings : List Setting) (setting : Setting)
    → value_of key (settings ++ setting ∷ []) ≡ given_first (value_of key settings)
    (if bytes_eq setting.key key then Some setting.value else None)
value_push key [] setting = refl
value_push key (first ∷ settings) setting = go (bytes_eq first.key key) (value_push key settings setting)
  where
    more : Option ℕ
    more = if bytes_eq setting.key key then Some setting.value else None

    go : (test : Bool) → value_of key (settings ++ setting ∷ []) ≡ given_first (value_of key settings) more
        → (if test then Some first.value else value_of key (settings ++ setting ∷ [])) ≡ given_first
        (if test then Some first.value else value_of key settings) more
    go true after = refl
    go false after = after

-- nothing more is given
first_alone : (given : Option ℕ) → given_first given None ≡ given
first_alone (Some value) = refl
first_alone None = refl

-- a setting of another key changes nothing
value_stays : (key : List ℕ) (settings : List Setting) (setting : Setting) → bytes_eq setting.key key ≡ false
    → value_of key settings ≡ value_of key (settings ++ setting ∷ [])
value_stays key settings setting other =
    sym (value_push key settings setting
    ∙ ap (λ (test : Bool). given_first (value_of key settings) (if test then Some setting.value else None)) other
    ∙ first_alone (value_of key settings))

-- the first setting of a key gives its value
value_comes : (key : List ℕ) (settings : List Setting) (setting : Setting) → bytes_eq setting.key key ≡ true
    → value_of key settings ≡ None
    → Some setting.value ≡ value_of key (settings ++ setting ∷ [])
value_comes key settings setting own none =
    sym (value_push key settings setting
    ∙ ap (λ (test : Bool). given_first (value_of key settings) (if test then Some setting.value else None)) own
    ∙ ap (λ (given : Option ℕ). given_first given (Some setting.value)) none)

-- a fresh value is refused as it is judged
fresh_judged : (given : Option ℕ) (bound value : ℕ) (next : ℕ → Given) (after : Given) → (given ≡ None → next value ≡ after)
    → (fresh_value given bound value >>= λ v. Ok (next v)) ≡ unless_refused (value_refusal (is_some given) value (Some bound)) after
fresh_judged (Some before) bound value next after same = refl
fresh_judged None bound value next after same = go (nat_le bound value)
  where
    go : (test : Bool) → ((if test then Err kinds.Value else Ok value) >>= λ v. Ok (next v)) ≡ unless_refused
        (if test then Some kinds.Value else None) after
    go true = refl
    go false = ap (λ (given : Given). Ok given) (same refl)

-- ---- one setting more

-- a setting is judged after the earlier ones as it is by what they gave
IsJudged : ℕ → List Setting → Setting → Type 0
IsJudged slices earlier setting =
    with_setting slices (given_of earlier) setting ≡ unless_refused (setting_refusal slices earlier setting)
    (given_of (earlier ++ setting ∷ []))

judged_m : (slices : ℕ) (earlier : List Setting) (value : ℕ) → IsJudged slices earlier (setting_for (codes "m") value)
unfolding IsJudged with_setting
judged_m slices earlier value =
    let setting = setting_for (codes "m") value in
    fresh_judged (value_of (codes "m") earlier) (4 ^ slices) value (λ m. record (given_of earlier) { m = Some m })
    (given_of (earlier ++ setting ∷ []))
    (λ none.
    let m = value_comes (codes "m") earlier setting refl none in
    let i = value_stays (codes "i") earlier setting refl in
    let px = value_stays (codes "px") earlier setting refl in
    let sx = value_stays (codes "sx") earlier setting refl in
    cc)

judged_i : (slices : ℕ) (earlier : List Setting) (value : ℕ) → IsJudged slices earlier (setting_for (codes "i") value)
unfolding IsJudged with_setting
judged_i slices earlier value =
    let setting = setting_for (codes "i") value in
    fresh_judged (value_of (codes "i") earlier) (4 ^ slices) value (λ i. record (given_of earlier) { i = Some i })
    (given_of (earlier ++ setting ∷ []))
    (λ none.
    let m = value_stays (codes "m") earlier setting refl in
    let i = value_comes (codes "i") earlier setting refl none in
    let px = value_stays (codes "px") earlier setting refl in
    let sx = value_stays (codes "sx") earlier setting refl in
    cc)

judged_px : (slices : ℕ) (earlier : List Setting) (value : ℕ) → IsJudged slices earlier (setting_for (codes "px") value)
unfolding IsJudged with_setting
judged_px slices earlier value =
    let setting = setting_for (codes "px") value in
    fresh_judged (value_of (codes "px") earlier) 16 value (λ px. record (given_of earlier) { px = Some px })
    (given_of (earlier ++ setting ∷ []))
    (λ none.
    let m = value_stays (codes "m") earlier setting refl in
    let i = value_stays (codes "i") earlier setting refl in
    let px = value_comes (codes "px") earlier setting refl none in
    let sx = value_stays (codes "sx") earlier setting refl in
    cc)

judged_sx : (slices : ℕ) (earlier : List Setting) (value : ℕ) → IsJudged slices earlier (setting_for (codes "sx") value)
unfolding IsJudged with_setting
judged_sx slices earlier value =
    let setting = setting_for (codes "sx") value in
    fresh_judged (value_of (codes "sx") earlier) 16 value (λ sx. record (given_of earlier) { sx = Some sx })
    (given_of (earlier ++ setting ∷ []))
    (λ none.
    let m = value_stays (codes "m") earlier setting refl in
    let i = value_stays (codes "i") earlier setting refl in
    let px = value_stays (codes "px") earlier setting refl in
    let sx = value_comes (codes "sx") earlier setting refl none in
    cc)

-- a setting of a key that is none of these
judged_other : (slices : ℕ) (earlier : List Setting) (key : List ℕ) (value : ℕ) → bytes_eq key (codes "m") ≡ false
    → bytes_eq key (codes "i") ≡ false
    → bytes_eq key (codes "px") ≡ false → bytes_eq key (codes "sx") ≡ false → IsJudged slices earlier (setting_for key value)
unfolding IsJudged with_setting
judged_other slices earlier key value m i px sx = rw (m, i, px, sx) refl

-- a setting of any key
judged : (slices : ℕ) (earlier : List Setting) (key : List ℕ) (value : ℕ) → IsJudged slices earlier (setting_for key value)
judged slices earlier key value =
    go (bytes_eq key (codes "m")) (bytes_eq key (codes "i")) (bytes_eq key (codes "px")) (bytes_eq key (codes "sx")) refl refl refl refl
  where
    known : (name : List ℕ) → bytes_eq key name ≡ true → IsJudged slices earlier (setting_for name value)
        → IsJudged slices earlier (setting_for key value)
    known name own is = let P : List ℕ → Type 0 = λ k. IsJudged slices earlier (setting_for k value) in
        subst P (sym ((bytes_decides key name).0 own)) is

    go : (m i px sx : Bool) → bytes_eq key (codes "m") ≡ m → bytes_eq key (codes "i") ≡ i → bytes_eq key (codes "px") ≡ px
        → bytes_eq key (codes "sx") ≡ sx
        → IsJudged slices earlier (setting_for key value)
    go true i px sx em ei ep es = known (codes "m") em (judged_m slices earlier value)
    go false true px sx em ei ep es = known (codes "i") ei (judged_i slices earlier value)
    go false false true sx em ei ep es = known (codes "px") ep (judged_px slices earlier value)
    go false false false true em ei ep es = known (codes "sx") es (judged_sx slices earlier value)
    go false false false false em ei ep es = judged_other slices earlier key value em ei ep es

-- ---- all settings

-- what is given after these settings is refused or given as they are judged together
given_judged : (slices : ℕ) (earlier later : List Setting)
    → given_after slices (given_of earlier) later ≡ unless_refused (settings_refusal slices earlier later) (given_of (earlier ++ later))
unfolding given_after settings_refusal IsJudged
given_judged slices earlier [] = ap (λ (settings : List Setting). Ok (given_of settings)) (sym (append-nil earlier))
given_judged slices earlier (setting ∷ later) =
    ap (λ (read : Result Given ScriptKind). read >>= λ more. given_after slices more later) one
    ∙ go (setting_refusal slices earlier setting) (given_judged slices (earlier ++ setting ∷ []) later)
  where
    one : with_setting slices (given_of earlier) setting ≡ unless_refused (setting_refusal slices earlier setting)
        (given_of (earlier ++ setting ∷ []))
    one = judged slices earlier setting.key setting.value

    go : (refusal : Option ScriptKind)
        → given_after slices (given_of (earlier ++ setting ∷ [])) later ≡ unless_refused
        (settings_refusal slices (earlier ++ setting ∷ []) later) (given_of ((earlier ++ setting ∷ []) ++ later))
        → (unless_refused refusal (given_of (earlier ++ setting ∷ [])) >>= λ more. given_after slices more later)
        ≡ unless_refused (or_else refusal (settings_refusal slices (earlier ++ setting ∷ []) later))
        (given_of (earlier ++ setting ∷ later))
    go None after = after
        ∙ ap (λ (all : List Setting). unless_refused (settings_refusal slices (earlier ++ setting ∷ []) later) (given_of all))
        (append_assoc earlier (setting ∷ []) later)
    go (Some kind) after = refl

-- the buses of settings that are judged together
buses_judged : (slices : ℕ) (settings : List Setting)
    → unless_refused (settings_refusal slices [] settings)
    (buses_by settings) ≡ (given_after slices nothing_given settings >>= λ given. Ok (buses_from given))
buses_judged slices settings =
    go (settings_refusal slices [] settings)
    ∙ sym (ap (λ (read : Result Given ScriptKind). read >>= λ given. Ok (buses_from given)) (given_judged slices [] settings))
  where
    go : (refusal : Option ScriptKind)
        → unless_refused refusal (buses_by settings) ≡ (unless_refused refusal (given_of settings) >>= λ given. Ok (buses_from given))
    go None = refl
    go (Some kind) = refl

-- the words after `clk` give the same buses, read a setting at a time
pub clock_by_steps : (slices : ℕ) (words : List Word) → clock_buses slices words ≡ clock_steps slices words
clock_by_steps slices words = go (settings_of words)
  where
    go : (read : Result (List Setting) ScriptKind)
        → (read >>= λ settings. unless_refused (settings_refusal slices [] settings) (buses_by settings))
        ≡ (read >>= given_after slices nothing_given >>= λ given. Ok (buses_from given))
    go (Ok settings) = buses_judged slices settings
    go (Err kind) = refl
