use Rattle.std.proofs.Common.{◌≡◌, ◌<◌, ◌≤◌, ◌⊎◌, ℕ, ℤ, List, length, take, Some, sym, ap, subst, ◌∙◌, arith}
use Rattle.std.specs.Prelude.{slice_get}
use Rattle.placer.specs.Marking.{IsWithin, Lowers}
use Rattle.placer.proofs.MarkSteps.{Lowers_push, next_lit, read_place}
use Rattle.placer.proofs.conflict_analysis.lowest_of.Goals as goal

pub loop-lit-preserved : goal.loop-lit-preserved
loop-lit-preserved c =
    let clause = c.args.clause.now in
    let places = c.args.places.now in
    let es = c.args.trail.now.entries in
    let i = c.loop-lit.lit-index in
    let z = c.lit-item.result in
    let lt : c.loop-lit.lit-index < length c.args.clause.now = omega arith in
    let w : IsWithin places (length es) z = subst (λ (y : ℤ). IsWithin places (length es) y) (sym c.lit-item.is) (c.requires i z lt) in
    let at : _ ≡ w.place = read_place places (length es) z c.var.result w c.var.ensures.value in
    let e = c.lower_of-least.ensures in
    let there : slice_get es w.place ≡ Some c.entry.result = ap (slice_get es) (sym at) ∙ c.entry.ensures in
    subst (λ (cl : List ℤ). Lowers es places c.args.level cl c.args.lowest c.lower_of-least.result)
    (sym (next_lit clause i z lt c.lit-item.is))
    (Lowers_push es places c.args.level (take i clause)
    z w.place c.entry.result c.args.lowest c.loop-lit.least c.lower_of-least.result w.there there e.lower
    (λ s. subst (λ (p : ℕ). c.lower_of-least.result ≤ p) at (e.least s))
    (subst (λ (p : ℕ). (c.lower_of-least.result ≡ c.loop-lit.least)
    ⊎ ((c.lower_of-least.result ≡ p) × (c.entry.result.level ≡ c.args.level))) at e.own)
    c.loop-lit.invariant)
