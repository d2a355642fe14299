use Rattle.std.proofs.Common.{◌≡◌, ◌<◌, ℕ, ℤ, List, Some, true}
use Rattle.std.specs.Prelude.{slice_get}
use Rattle.clause_base.specs.TruthValues.{clause_holds, truth_in}
use Rattle.search_tests.proofs.model_tables.all_hold.Given as goal

-- the clauses so far are true
abbrev pub invariant-loop-place : goal.invariant-loop-place
invariant-loop-place l = (k : ℕ) → k < l.place → (clause : List ℤ) → slice_get l.list.clauses k ≡ Some clause
    → clause_holds (truth_in l.values) clause ≡ true
