-- Lists of settings put together.
use Rattle.std.proofs.Common.{◌≡◌, ◌++◌, ◌∷◌, [], List, Result, Ok, Err, refl, ap, append_assoc}
use Rattle.bus_script.specs.declared.fault.ScriptKind.{ScriptKind}
use Rattle.bus_script.specs.declared.setting.Setting.{Setting}
use Rattle.bus_script.specs.Settings.{with_front}

abbrev ok_settings : List Setting → Result (List Setting) ScriptKind
ok_settings settings = Ok settings

-- a setting goes before the others or after those before it
pub front_push : (front : List Setting) (setting : Setting) (others : Result (List Setting) ScriptKind)
    → with_front (front ++ setting ∷ []) others ≡ with_front front (with_front (setting ∷ []) others)
front_push front setting (Ok others) =
    let joined : (front ++ setting ∷ []) ++ others ≡ front ++ (setting ∷ others) = rw append_assoc in
    ap ok_settings joined
front_push front setting (Err kind) = refl
