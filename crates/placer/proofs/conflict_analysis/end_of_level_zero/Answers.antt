use Rattle.std.proofs.Common.{◌≡◌, ◌≢◌, ◌<◌, ◌≤◌, ◌+◌, ◌-◌, ◌/◌, ℕ, List, Some, sym, ap, subst, ◌∙◌, ⊎_elim, arith}
use Rattle.std.specs.Prelude.{slice_get}
use Rattle.std.proofs.lemmas.Bool.{cases_lt}
use Rattle.std.proofs.lemmas.Option.{same_Some}
use Rattle.clause_base.specs.declared.entry.Entry.{Entry}
use Rattle.trail.specs.Assignment.{Assignment, IsLevelled}
use Rattle.trail.proofs.Levels.{IsTrail-levelled}
use Rattle.placer.proofs.FalseEntries.{level_rises}
use Rattle.placer.proofs.conflict_analysis.end_of_level_zero.Goals as goal

-- from an entry above level 0 on all are
above_from : (es : List Entry) → IsLevelled es → (m : ℕ) (d : Entry) → slice_get es m ≡ Some d → 0 < d.level → (i : ℕ) (e : Entry)
    → m ≤ i → slice_get es i ≡ Some e → 0 < e.level
above_from es l m d at above i e le there = ⊎_elim
    (λ (lt : m < i). let rises : d.level ≤ e.level = level_rises es l m i d e lt at there in omega arith)
    (λ (ge : i ≤ m).
    let same : i ≡ m = omega arith in
    let is : d ≡ e = same_Some d e (sym at ∙ ap (slice_get es) (sym same) ∙ there) in
    subst (λ (x : Entry). 0 < x.level) is above)
    (cases_lt m i)

pub halving-preserved : goal.halving-preserved
halving-preserved c =
    let es = c.args.board.now.trail.entries in
    let value = c.trail-trail.ensures.trail in
    let low = c.halving.low in
    let high = c.halving.high in
    let middle = low + (high - low) / 2 in
    let l : IsLevelled es = IsTrail-levelled c.args.board.now.list.vars es c.trail-trail.ensures.ordered in
    let there : slice_get es middle ≡ Some c.entry-entry.result =
    ap (λ (a : Assignment). slice_get a.entries middle) (sym value) ∙ c.entry-entry.ensures in
    let no : c.entry-entry.result.level ≢ 0 = c.if-entry-eq0.false in
    let lt : c.halving.low < c.halving.high = c.halving-test.true in
    let most : c.halving.high ≤ c.args.end = c.halving.invariant.within in
    record {
      order = omega arith;
      within = omega arith;
      begun = above_from es l middle c.entry-entry.result there (omega arith);
    }
