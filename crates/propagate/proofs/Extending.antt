-- A trail that literals implied at its present level are added to.

use Rattle.std.proofs.Common.{◌≡◌, ℕ, ◌<◌, ◌≤◌, false, cond, List, [], ◌∷◌, ◌++◌, length, filter, refl, sym, ap, ◌∙◌, arith}
use Rattle.std.specs.Prelude.{nat_le, All}
use Rattle.std.proofs.lemmas.Bool.Decides.{nat_tests}
use Rattle.std.proofs.lemmas.List.{append-nil, append_assoc, length-append}
use Rattle.std.proofs.lemmas.List.Elements.{All-nil, All-append, All-push, All-tail, All-weaker, filter-append}
use Rattle.std.proofs.lemmas.List.Sums.{sum_by-cons, sum_by-append}
use Rattle.clause_base.specs.declared.entry.Entry.{Entry}
use Rattle.trail.specs.Assignment.{step_of, level_of}
use Rattle.trail.proofs.Levels.{step-implied}
use Rattle.propagate.specs.Standing.{up_to}
use Rattle.propagate.specs.Propagation.{Extends}

-- implied entries begin no level
level_implied : (added : List Entry) → All (λ e. 0 < e.reason) added → level_of added ≡ 0
level_implied [] h = refl
level_implied (e ∷ es) h =
    let first : 0 < e.reason = h 0 e (omega arith) in
    omega (arith, sum_by-cons step_of e es, step-implied e first, level_implied es (All-tail (λ x. 0 < x.reason) e es h))

-- the level stays
pub level_extends : (old new : List Entry) → Extends old new → level_of new ≡ level_of old
level_extends old new x = ap level_of x.split ∙ sum_by-append step_of old x.added ∙ omega (arith, level_implied x.added x.implied)

-- no entry is taken back
pub longer_extends : (old new : List Entry) → Extends old new → length old ≤ length new
longer_extends old new x = omega (arith, ap length x.split, length-append old x.added)

-- nothing is added
pub Extends_none : (es : List Entry) → Extends es es
Extends_none es =
    record {
      added = [];
      split = sym (append-nil es);
      implied = All-nil (λ e. 0 < e.reason);
      present = All-nil (λ e. e.level ≡ level_of es);
    }

-- one literal is implied
pub Extends_push : (es : List Entry) (e : Entry) → 0 < e.reason → e.level ≡ level_of es → Extends es (es ++ e ∷ [])
Extends_push es e implied present = record {
  added = e ∷ [];
  split = refl;
  implied = All-push (λ x. 0 < x.reason) [] e (All-nil (λ x. 0 < x.reason)) implied;
  present = All-push (λ x. x.level ≡ level_of es) [] e (All-nil (λ x. x.level ≡ level_of es)) present;
}

-- first the ones, then the others
pub Extends_trans : (old mid new : List Entry) → Extends old mid → Extends mid new → Extends old new
Extends_trans old mid new a b = record {
  added = a.added ++ b.added;
  split = b.split ∙ ap (λ l. l ++ b.added) a.split ∙ append_assoc old a.added b.added;
  implied = All-append (λ x. 0 < x.reason) a.added b.added a.implied b.implied;
  present =
      All-append (λ x. x.level ≡ level_of old) a.added b.added a.present
      (All-weaker (λ x. x.level ≡ level_of mid) (λ x. x.level ≡ level_of old) (λ x h. h ∙ level_extends old mid a) b.added b.present);
}

-- entries of a level above another are filtered out
pub filter_above : (l level : ℕ) → l < level → (added : List Entry) → All (λ e. e.level ≡ level) added
    → filter (λ e. nat_le e.level l) added ≡ []
filter_above l level lt [] h = refl
filter_above l level lt (e ∷ es) h =
    let at : e.level ≡ level = h 0 e (omega arith) in
    let fails : nat_le e.level l ≡ false = grind (arith, nat_tests) in
    ap (λ b. cond b (e ∷ filter (λ x. nat_le x.level l) es) (filter (λ x. nat_le x.level l) es)) fails
    ∙ filter_above l level lt es (All-tail (λ x. x.level ≡ level) e es h)

-- the ends of the levels below the present one stay as they were
pub up_to_extends : (old new : List Entry) → Extends old new → (l : ℕ) → l < level_of old → up_to l new ≡ up_to l old
up_to_extends old new x l lt =
    ap (up_to l) x.split ∙ filter-append (λ e. nat_le e.level l) old x.added
    ∙ ap (λ a. up_to l old ++ a) (filter_above l (level_of old) lt x.added x.present) ∙ append-nil (up_to l old)
