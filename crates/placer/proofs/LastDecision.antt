-- The last decision of a trail.

use Rattle.std.proofs.Common.{◌≡◌, ◌<◌, ◌≤◌, Bool, true, false, ◌==◌, List, [], ◌∷◌, ◌++◌, refl, ap, ⊎_elim, arith}
use Rattle.std.specs.Bool.{if◌then◌else◌}
use Rattle.std.proofs.lemmas.Bool.{cases_lt, eqb-true}
use Rattle.std.proofs.lemmas.List.Sums.{sum_by-cons}
use Rattle.clause_base.specs.declared.entry.Entry.{Entry}
use Rattle.trail.specs.Assignment.{level_of, step_of}

-- the last decision of the entries
pub record HasLast (es : List Entry) : Type 0 where
  pub before : List Entry
  pub own : Entry
  pub after : List Entry
  pub split : before ++ own ∷ after ≡ es
  pub decision : own.reason ≡ 0
  pub quiet : level_of after ≡ 0

-- entries of a level above 0 hold a decision
pub last_decision : (es : List Entry) → 0 < level_of es → HasLast es
last_decision [] lt = absurd (omega arith)
last_decision (e ∷ es) lt = ⊎_elim
    (λ (more : 0 < level_of es). later (last_decision es more))
    (λ (none_more : level_of es ≤ 0). here none_more)
    (cases_lt 0 (level_of es))
  where
    later : HasLast es → HasLast (e ∷ es)
    later r = record {
      before = e ∷ r.before;
      own = r.own;
      after = r.after;
      split = ap (λ l. e ∷ l) r.split;
      decision = r.decision;
      quiet = r.quiet;
    }

    here : level_of es ≤ 0 → HasLast (e ∷ es)
    here low = by (e.reason == 0) refl
      where
        by : (p : Bool) → (e.reason == 0) ≡ p → HasLast (e ∷ es)
        by true t = record { before = []; own = e; after = es; split = refl; decision = eqb-true e.reason 0 t; quiet = omega arith }
        by false t =
            let none_here : step_of e ≡ 0 = ap (λ b. if b then 1 else 0) t in
            absurd (omega (arith, sum_by-cons step_of e es, none_here))
