-- Digits of a trace line, the highest first.
use Rattle.std.proofs.Common.{◌≡◌, ℕ, zero, suc, ◌-◌, ◌*◌, ◌/◌, ◌%◌, ◌^◌, ◌<◌, List, [], ◌∷◌, ◌++◌, append_assoc, arith}
use Rattle.bus_script.specs.TraceLine.{hex_digit, hex_digits}

-- the highest digit, and those below it
hex_next : (place word : ℕ) → 0 < place
    → hex_digits place word ≡ hex_digit (word / 2 ^ (4 * (place - 1)) % 16) ∷ hex_digits (place - 1) word
unfolding hex_digits
hex_next zero word h = absurd (omega arith)
hex_next (suc place) word h =
    let below : suc place - 1 ≡ place = omega arith in
    rw below

-- the highest digit goes to the end of those before it
pub hex_turn : (before after whole : List ℕ) (place word digit : ℕ) → 0 < place → after ≡ before ++ digit ∷ []
    → digit ≡ hex_digit (word / 2 ^ (4 * (place - 1)) % 16)
    → before ++ hex_digits place word ≡ whole → after ++ hex_digits (place - 1) word ≡ whole
hex_turn before after whole place word digit h added is so_far =
    let next : before ++ (hex_digit (word / 2 ^ (4 * (place - 1)) % 16) ∷ hex_digits (place - 1) word) ≡ whole =
    rw (hex_next place word h) at so_far in
    rw (added, is, append_assoc) next
