-- The machine before the first clock fits every array.
use Rattle.std.proofs.Common.{ℕ, ◌≡◌, ◌+◌, ◌<◌, ◌^◌, ◌++◌, ◌∷◌, [], length, refl, sym, zero-add}
use Rattle.std.proofs.lemmas.List.Elements.{All-replicate}
use Rattle.std.proofs.lemmas.List.FromFn.{map-range_with_len_more, length-map-range_with_len}
use Rattle.cpe_slice.specs.Registers.{AllBelow}
use Rattle.slice_array.specs.Whole.{zero_registers}
use Rattle.bus_script.specs.Script.{BusScript, initial_at}
use Rattle.bus_script.proofs.ScriptFits.{some_words}
use Rattle.flow_sim.specs.Machine.{first_words}

-- 0 is a word of every array
pub zero_below : (slices : ℕ) → AllBelow (4 ^ slices) zero_registers
zero_below slices = record {
  ten = refl;
  r = All-replicate (λ x. x < 4 ^ slices) 10 0 (some_words slices);
  t = some_words slices;
  ac = some_words slices;
  mar = some_words slices;
}

-- no words yet
pub first_words_none : (script : BusScript) → [] ≡ first_words script 0
unfolding first_words
first_words_none script = refl

-- one word more
pub first_words_more : (script : BusScript) (count : ℕ)
    → first_words script count ++ initial_at script count ∷ [] ≡ first_words script (count + 1)
unfolding first_words
first_words_more script count = sym (map-range_with_len_more (initial_at script) 0 count count (zero-add count))

-- as many words as addresses
pub first_words_length : (script : BusScript) (count : ℕ) → length (first_words script count) ≡ count
unfolding first_words
first_words_length script count = length-map-range_with_len (initial_at script) 0 count
