use Rattle.std.proofs.Common.{◌≡◌, ◌<◌, ◌≤◌, ◌⊎◌, ℤ, length, take, Some, false, sym, ap, subst, ◌∙◌, inl, inr, arith}
use Rattle.std.proofs.lemmas.Bool.{not-false}
use Rattle.std.proofs.lemmas.List.{take_all}
use Rattle.propagate.proofs.Values.{same_lits}
use Rattle.std.proofs.lemmas.List.Elements.{All-more, All-same}
use Rattle.trail.specs.Assignment.{value_of}
use Rattle.propagate.proofs.visits.watchable_besides.Goals as goal
use Rattle.propagate.proofs.visits.watchable_besides.Goals.{then-ne+in-Some-false, else-ne}

pub loop-lit-preserved : goal.loop-lit-preserved
loop-lit-preserved c =
    let P : ℤ → Type 0 = λ z. (z ≡ c.args.other) ⊎ (value_of z c.args.trail.now.entries ≡ Some false) in
    let x = c.lit-item.result in
    let i = c.loop-lit.lit-index in
    let lt : i < length c.args.clause.now = omega arith in
    let here : P x = elim c.if-ne.branch [
      | then-ne+in-Some-false w ↦ inr (sym w.value.ensures ∙ w.in-Some-false.is ∙ ap Some w.in-Some-false.field-0-test)
      | else-ne w ↦ inl (same_lits x c.args.other (not-false _ (sym c.ne.ensures ∙ w.if-ne.false)))
    ] in
    All-more P c.args.clause.now i x lt c.loop-lit.invariant (subst P c.lit-item.is here)

pub returns : goal.returns
returns c =
    let P : ℤ → Type 0 = λ z. (z ≡ c.args.other) ⊎ (value_of z c.args.trail.now.entries ≡ Some false) in
    let past : length c.args.clause.now ≤ c.loop-lit.lit-index = omega arith in
    All-same P c.args.clause.now (take c.loop-lit.lit-index c.args.clause.now)
    (sym (take_all c.loop-lit.lit-index c.args.clause.now past)) c.loop-lit.invariant
