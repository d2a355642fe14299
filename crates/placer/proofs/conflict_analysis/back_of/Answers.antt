use Rattle.std.proofs.Common.{◌≡◌, ◌≢◌, ◌<◌, ◌⊎◌, ℕ, ℤ, List, length, take, Some, sym, ap, subst, ◌∙◌, arith}
use Rattle.std.specs.Prelude.{slice_get}
use Rattle.placer.specs.Marking.{IsWithin, IsBack}
use Rattle.placer.proofs.MarkSteps.{IsBack_push, next_lit, read_place}
use Rattle.placer.proofs.conflict_analysis.back_of.Goals as goal

pub loop-lit-preserved : goal.loop-lit-preserved
loop-lit-preserved c =
    let clause = c.args.clause.now in
    let places = c.args.places.now in
    let es = c.args.trail.now.entries in
    let i = c.loop-lit.lit-index in
    let z = c.lit-item.result in
    let new = c.greater_of-back.result in
    let lt : c.loop-lit.lit-index < length c.args.clause.now = omega arith in
    let w : IsWithin places (length es) z = subst (λ (y : ℤ). IsWithin places (length es) y) (sym c.lit-item.is) (c.requires i z lt) in
    let at : _ ≡ w.place = read_place places (length es) z c.var.result w c.var.ensures.value in
    let e = c.greater_of-back.ensures in
    let there : slice_get es w.place ≡ Some c.entry.result = ap (slice_get es) (sym at) ∙ c.entry.ensures in
    subst (λ (cl : List ℤ). IsBack es places c.args.point cl new) (sym (next_lit clause i z lt c.lit-item.is))
    (IsBack_push es places c.args.point (take i clause) z w.place c.entry.result c.loop-lit.back new w.there there e.least
    (λ s. e.most (λ r. s (sym at ∙ r)))
    (subst (λ (p : ℕ). (new ≡ c.loop-lit.back) ⊎ ((new ≡ c.entry.result.level) × (p ≢ c.args.point))) at e.own)
    c.loop-lit.invariant)
