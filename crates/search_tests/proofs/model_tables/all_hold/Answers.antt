use Rattle.std.proofs.Common.{◌≡◌, ◌+◌, ◌-◌, ◌<◌, ◌∙◌, ℤ, List, Some, true, ap, sym, subst, arith, below_more, get_or}
use Rattle.std.specs.Prelude.{slice_get}
use Rattle.std.proofs.lemmas.Option.{same_Some, slice_get-get_or}
use Rattle.clause_base.specs.TruthValues.{clause_holds, truth_in}
use Rattle.search_tests.proofs.model_tables.all_hold.Goals as goal

pub loop-place-preserved : goal.loop-place-preserved
loop-place-preserved c = below_more _ _ c.loop-place.invariant here
  where
    here : (clause : List ℤ) → slice_get c.args.list.now.clauses c.loop-place.place ≡ Some clause
        → clause_holds (truth_in c.args.values.now) clause ≡ true
    here clause at =
        let place : c.loop-place.place + 1 - 1 ≡ c.loop-place.place = omega arith in
        let same : c.get.result.now ≡ clause =
        same_Some c.get.result.now clause (sym c.get.ensures.clause ∙ ap (slice_get c.args.list.now.clauses) place ∙ at) in
        subst (λ (l : List ℤ). clause_holds (truth_in c.args.values.now) l ≡ true) same (sym c.holds.ensures ∙ c.if-holds.true)

pub returns : goal.returns
returns c = λ yes k d within.
    let k_in : k < c.loop-place.place = omega arith in
    c.loop-place.invariant k k_in (get_or c.args.list.now.clauses k d) (slice_get-get_or c.args.list.now.clauses k d within)
