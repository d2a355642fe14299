-- The numbers that a case draws. The generator is Knuth's linear congruential one of 64 bits; that a draw takes the
-- upper 31 bits is this project's own choice.
use Rattle.std.specs.Prelude.{ℕ, zero, suc, ◌+◌, ◌*◌, ◌/◌, ◌%◌, ◌^◌}

-- the state that follows a state
unfoldable pub next_state : ℕ → ℕ
next_state state = (state * 6364136223846793005 + 1442695040888963407) % 2 ^ 64

-- the state after so many draws
unfoldable pub state_after : ℕ → ℕ → ℕ
state_after state zero = state
state_after state (suc draws) = next_state (state_after state draws)

-- what a draw among so many choices gives, from the state that it leaves
unfoldable pub drawn : ℕ → ℕ → ℕ
drawn state choices = state / 2 ^ 33 % choices

-- the draw of this number, from 0, that begins at a state
abbrev pub draw : ℕ → ℕ → ℕ → ℕ
draw state place choices = drawn (state_after state (suc place)) choices
