-- States and draws one after the other.
use Rattle.std.proofs.Common.{◌≡◌, ℕ, zero, suc, ◌+◌, ◌<◌, refl, ap, ◌∙◌, arith}
use Rattle.gen_case.specs.Draws.{next_state, state_after, drawn}

-- at the start no draw is made
pub no_draw : (state : ℕ) → state_after state 0 ≡ state
unfolding state_after
no_draw state = refl

-- one draw more
pub one_draw : (state draws : ℕ) → state_after state (suc draws) ≡ next_state (state_after state draws)
unfolding state_after
one_draw state draws = refl

-- draws after draws
pub draws_add : (state m n : ℕ) → state_after (state_after state m) n ≡ state_after state (m + n)
unfolding state_after
draws_add state m zero = ap (state_after state) (omega arith)
draws_add state m (suc n) =
    let next : suc (m + n) ≡ m + suc n = omega arith in
    ap next_state (draws_add state m n) ∙ ap (state_after state) next

-- a draw is below the number of its choices
pub drawn_below : (state choices : ℕ) → 0 < choices → drawn state choices < choices
unfolding drawn
drawn_below state choices some = omega arith
