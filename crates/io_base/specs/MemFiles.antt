-- Files in memory.
use Rattle.std.specs.Prelude.{ℕ, List, Option, String, Vec}
use Rattle.std.specs.Option.{option_map}
use Rattle.std.specs.BTreeMap.{BTreeMap, get_by_text}
use Rattle.std.specs.declared.alloc.Global.{Global}

-- the bytes of the file of a name, in a map of names to bytes
abbrev pub file_in : BTreeMap (String Global) (Vec ℕ Global) → List ℕ → Option (List ℕ)
file_in files name = option_map (λ bytes. bytes.items) (get_by_text files name)
