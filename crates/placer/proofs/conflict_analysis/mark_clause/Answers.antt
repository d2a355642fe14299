use Rattle.std.proofs.Common.{◌≡◌, ◌<◌, ℕ, ℤ, true, List, [], ◌∷◌, ◌++◌, length, get_or, set, take, sym, subst, arith}
use Rattle.placer.specs.Marking.{IsWithin, Marks}
use Rattle.placer.proofs.MarkSteps.{Marks_push, next_lit, read_place}
use Rattle.placer.proofs.conflict_analysis.mark_clause.Goals as goal

pub loop-lit-preserved : goal.loop-lit-preserved
loop-lit-preserved c =
    let clause = c.args.clause.now in
    let places = c.args.places.now in
    let i = c.loop-lit.lit-index in
    let z = c.lit-item.result in
    let mid = c.loop-lit.marks in
    let lt : c.loop-lit.lit-index < length c.args.clause.now = omega arith in
    let w : IsWithin places (length c.args.marks.now) z =
    subst (λ (y : ℤ). IsWithin places (length c.args.marks.now) y) (sym c.lit-item.is) (c.requires i z lt) in
    let size : length c.loop-lit.marks ≡ length c.args.marks.now = c.loop-lit.invariant.sized in
    let below : w.place < length c.args.marks.now = w.below in
    subst (λ (cl : List ℤ). Marks places cl c.args.marks.now (set mid (get_or places c.var.result 0) true))
    (sym (next_lit clause i z lt c.lit-item.is))
    (subst (λ (p : ℕ). Marks places (take i clause ++ z ∷ []) c.args.marks.now (set mid p true))
    (sym (read_place places (length c.args.marks.now) z c.var.result w c.var.ensures.value))
    (Marks_push places (take i clause) z w.place c.args.marks.now mid w.there (omega arith) c.loop-lit.invariant))
