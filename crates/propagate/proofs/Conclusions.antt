-- What follows from a look at a clause, one of whose watched literals is false.

use Rattle.std.proofs.Common.{◌≡◌, ◌≢◌, ℕ, ℤ, ◌+◌, ◌-◌, ◌*◌, ◌<◌, ◌≤◌, Bool, true, false, not, List, [], ◌∷◌, ◌++◌, length, take, drop, get_or, set, Option, Some, None, refl, sym, ap, subst, ◌∙◌, ⊎_elim, ◌⊎◌, arith}
use Rattle.std.specs.Prelude.{slice_get, All}
use Rattle.std.specs.Bool.{if◌then◌else◌}
use Rattle.std.specs.Option.{option_map, option_or}
use Rattle.std.proofs.lemmas.Bool.{eq-eqb}
use Rattle.std.proofs.lemmas.List.{length-set, length-take-le, length-drop, take-append-drop, get_or-take, get_or-drop, drop_more}
use Rattle.std.proofs.lemmas.Option.{slice_get_within, slice_get-get_or, get_or_from_slice_get, same_Some}
use Rattle.clause_base.specs.Clauses.{IsClause}
use Rattle.clause_base.specs.Lit.{var_of, is_positive}
use Rattle.clause_base.specs.Truth.{lits_of, IsSatisfied, IsFalse, IsUnit}
use Rattle.clause_base.specs.declared.entry.Entry.{Entry}
use Rattle.trail.specs.Assignment.{value_of, sign_of, level_of}
use Rattle.trail.proofs.Signs.{given_by, sign-push, sign-unassigned}
use Rattle.propagate.specs.Standing.{AreForced}
use Rattle.propagate.specs.Lists.{list_at}
use Rattle.propagate.specs.Watching.{code_of, IsIn, IsPartner, AreLaid}
use Rattle.propagate.specs.Visits.{AreFalseBesides, IsConcluded, IsStep, Visits}
use Rattle.propagate.specs.declared.visits.Visit.{Visit}
use Rattle.propagate.specs.declared.visits.Visit.TheVariants.{Kept, Moved, Conflict}
use Rattle.propagate.specs.declared.watch_lists.Watch.{Watch}
use Rattle.propagate.specs.declared.pairs.Pair.{Pair}
use Rattle.clause_base.proofs.ListLemmas.{get_set_same}
use Rattle.propagate.proofs.Listed.{list_at_same}
use Rattle.propagate.proofs.Steps.{step_none, step_implied}

-- the clause of a place is over the variables
pub clause_at : (vars : ℕ) (clauses : List (List ℤ)) (n : ℕ) (c : List ℤ) → All (IsClause vars) clauses → slice_get clauses n ≡ Some c
    → IsClause vars c
clause_at vars clauses n c valid there =
    subst (IsClause vars) (get_or_from_slice_get clauses n c c there) (valid n c (slice_get_within clauses n c there))

-- what all literals have, one of them has
pub in_all : (P : ℤ → Type 0) (c : List ℤ) (z : ℤ) → All P c → IsIn c z → P z
in_all P c z all i = subst P (get_or_from_slice_get c i.place z z i.there) (all i.place z (slice_get_within c i.place z i.there))

-- each literal over the variables has a list
pub code_listed : (vars : ℕ) (lists : List (List Watch)) (z : ℤ) → var_of z ≤ vars → length lists ≡ 2 * vars + 2
    → code_of z < length lists
code_listed vars lists z le sized = by (is_positive z)
  where
    by : (b : Bool) → 2 * var_of z + (if b then 1 else 0) < length lists
    by true = let n = var_of z in let l : n ≤ vars = le in omega (arith, l, sized)
    by false = let n = var_of z in let l : n ≤ vars = le in omega (arith, l, sized)

-- the partner is in the clause
pub partner_in : (vars : ℕ) (clauses : List (List ℤ)) (lists : List (List Watch)) (pairs : List Pair) (n : ℕ) (c : List ℤ) (lit other : ℤ)
    → AreLaid vars clauses lists pairs → n < length pairs → ((p : Pair) → slice_get pairs n ≡ Some p → IsPartner p lit other)
    → slice_get clauses n ≡ Some c → IsIn c other
partner_in vars clauses lists pairs n c lit other laid lt partner there =
    let d : Pair = record { first = lit; second = lit } in
    let q = get_or pairs n d in
    let at : slice_get pairs n ≡ Some q = slice_get-get_or pairs n d lt in
    let two = laid.paired n c q there at in
    ⊎_elim
    (λ (s : (q.first ≡ lit) × (q.second ≡ other)). subst (λ (z : ℤ). IsIn c z) s.1 two.1)
    (λ (s : (q.second ≡ lit) × (q.first ≡ other)). subst (λ (z : ℤ). IsIn c z) s.1 two.0)
    (partner q at).1

-- and is not the literal
pub partner_apart : (pairs : List Pair) (n : ℕ) (lit other : ℤ) → n < length pairs
    → ((p : Pair) → slice_get pairs n ≡ Some p → IsPartner p lit other) → other ≢ lit
partner_apart pairs n lit other lt partner =
    let d : Pair = record { first = lit; second = lit } in (partner (get_or pairs n d) (slice_get-get_or pairs n d lt)).0

-- what is known of a clause where it is looked at: it is a clause over the variables, the other watched literal is in it,
-- and the false one has its list
pub record IsVisited (vars : ℕ) (clauses : List (List ℤ)) (lists : List (List Watch)) (lit other : ℤ) (w : Watch) : Type 0 where
  pub clause : List ℤ
  pub there : slice_get clauses w.index ≡ Some clause
  pub valid : IsClause vars clause
  pub other_in : IsIn clause other
  pub other_in_range : var_of other ≤ vars
  pub apart : other ≢ lit
  pub listed : code_of lit < length lists

pub visited : (vars : ℕ) (clauses : List (List ℤ)) (lists : List (List Watch)) (pairs : List Pair) (lit other : ℤ) (place : ℕ) (w : Watch)
    → All (IsClause vars) clauses → AreLaid vars clauses lists pairs → var_of lit ≤ vars
    → slice_get (list_at lists (code_of lit)) place ≡ Some w → w.index < length pairs
    → ((p : Pair) → slice_get pairs w.index ≡ Some p → IsPartner p lit other) → IsVisited vars clauses lists lit other w
visited vars clauses lists pairs lit other place w valid laid in_range there paired partner =
    let entry = laid.listed (code_of lit) place w there in
    let own = clause_at vars clauses w.index entry.clause valid entry.there in
    let here = partner_in vars clauses lists pairs w.index entry.clause lit other laid paired partner entry.there in
    record {
      clause = entry.clause;
      there = entry.there;
      valid = own;
      other_in = here;
      other_in_range = in_all (λ (z : ℤ). var_of z ≤ vars) entry.clause other own.in_range here;
      apart = partner_apart pairs w.index lit other paired partner;
      listed = code_listed vars lists lit in_range laid.sized;
    }

-- an entry's literal is true
pub value_own : (es : List Entry) (e : Entry) → value_of e.lit es ≡ None → value_of e.lit (es ++ e ∷ []) ≡ Some true
value_own es e free = ap (option_map (λ s. if is_positive e.lit then s else not s)) sign ∙ straight (is_positive e.lit)
  where
    straight : (b : Bool) → ◌≡◌ {A = Option Bool} (Some (if b then b else not b)) (Some true)
    straight true = refl
    straight false = refl

    sign : sign_of (var_of e.lit) (es ++ e ∷ []) ≡ Some (is_positive e.lit)
    sign =
        sign-push (var_of e.lit) es e ∙ ap (λ o. option_or o (given_by (var_of e.lit) e)) (sign-unassigned e.lit es free)
        ∙ ap (λ b. if b then Some (is_positive e.lit) else None) (eq-eqb (var_of e.lit) (var_of e.lit) refl)

-- a value that is neither none nor true
pub value_false : (o : Option Bool) → o ≢ None → o ≢ Some true → o ≡ Some false
value_false None none true_ = absurd (none refl)
value_false (Some true) none true_ = absurd (true_ refl)
value_false (Some false) none true_ = refl

-- where all other literals are false, and the one is unassigned, the clause is unit
pub unit_besides : (vars : ℕ) (es : List Entry) (clause : List ℤ) (z : ℤ) → IsClause vars clause → IsIn clause z
    → All (λ y. (y ≡ z) ⊎ (value_of y es ≡ Some false)) clause → value_of z es ≡ None → IsUnit (lits_of es) clause z
unit_besides vars es clause z valid here rest free =
    record { front = take i clause; back = drop (i + 1) clause; split = split; unassigned = free; before = before; after = after }
  where
    i : ℕ
    i = here.place

    lt : i < length clause
    lt = slice_get_within clause here.place z here.there

    at : (d : ℤ) → get_or clause i d ≡ z
    at d = get_or_from_slice_get clause here.place z d here.there

    split : clause ≡ take i clause ++ z ∷ drop (i + 1) clause
    split =
        sym (take-append-drop i clause)
        ∙ ap (λ l. take i clause ++ l) (drop_more clause i z lt ∙ ap (λ y. y ∷ drop (i + 1) clause) (at z))

    other : (k : ℕ) (d : ℤ) → k < length clause → get_or clause k d ≢ z → value_of (get_or clause k d) es ≡ Some false
    other k d within ne =
        ⊎_elim (λ (same : get_or clause k d ≡ z). absurd (ne same)) (λ (is : value_of (get_or clause k d) es ≡ Some false). is)
        (rest k d within)

    before : All (λ y. value_of y es ≡ Some false) (take i clause)
    before k d within =
        let sized : length (take i clause) ≡ i = let le : i ≤ length clause = omega (arith, lt) in length-take-le i clause le in
        let below : k < i = omega (arith, sized, within) in
        let inside : k < length clause = omega (arith, below, lt) in
        let ne : get_or clause k d ≢ z = λ same. valid.once k i d below lt (same ∙ sym (at d)) in
        subst (λ (y : ℤ). value_of y es ≡ Some false) (sym (get_or-take i clause k d below)) (other k d inside ne)

    after : All (λ y. value_of y es ≡ Some false) (drop (i + 1) clause)
    after k d within =
        let inside : i + 1 + k < length clause = omega (arith, length-drop (i + 1) clause, within) in
        let above : i < i + 1 + k = omega arith in
        let ne : get_or clause (i + 1 + k) d ≢ z = λ same. valid.once i (i + 1 + k) d above inside (at d ∙ sym same) in
        subst (λ (y : ℤ). value_of y es ≡ Some false) (sym (get_or-drop (i + 1) clause k d)) (other (i + 1 + k) d inside ne)

-- where the one is false too, the clause is false
pub false_besides : (es : List Entry) (clause : List ℤ) (z : ℤ) → All (λ y. (y ≡ z) ⊎ (value_of y es ≡ Some false)) clause
    → value_of z es ≡ Some false → IsFalse (lits_of es) clause
false_besides es clause z rest own k d within =
    ⊎_elim (λ (same : get_or clause k d ≡ z). ap (λ y. value_of y es) same ∙ own)
    (λ (is : value_of (get_or clause k d) es ≡ Some false). is) (rest k d within)

-- what a look did that found no other literal
pub concluded : (vars : ℕ) (clauses : List (List ℤ)) (lists : List (List Watch)) (pairs : List Pair) (old new : List Entry) (lit : ℤ)
    (place : ℕ) (w : Watch) (clause : List ℤ) (other : ℤ)
    → AreLaid vars clauses lists pairs → AreForced clauses old → slice_get clauses w.index ≡ Some clause → IsClause vars clause
    → IsIn clause other
    → slice_get (list_at lists (code_of lit)) place ≡ Some w
    → (value_of other old ≢ Some true) × AreFalseBesides old clause other → (r : Visit)
    → IsConcluded old new w.index other r
    → IsStep vars clauses lists lists pairs pairs old new lit place × Visits clauses lists lists pairs new lit place r
concluded vars clauses lists pairs old new lit place w clause other laid forced c_at valid here listed found Kept told =
    let e = told.1.0 in
    let lit_is : e.lit ≡ other = told.1.1 in
    let level_is : e.level ≡ level_of old = told.1.2 in
    let reason_is : e.reason ≡ w.index + 1 = told.1.3 in
    let new_is : new ≡ old ++ e ∷ [] = told.1.4 in
    let free : value_of e.lit old ≡ None = ap (λ z. value_of z old) lit_is ∙ told.0 in
    let above : 0 < e.reason = omega (arith, reason_is) in
    let back : e.reason - 1 ≡ w.index = omega (arith, reason_is) in
    let unit : IsUnit (lits_of old) clause e.lit =
    subst (λ (z : ℤ). IsUnit (lits_of old) clause z) (sym lit_is) (unit_besides vars old clause other valid here found.1 told.0) in
    let step = step_implied vars clauses lists pairs old e lit place laid forced above level_is
    (record { clause = clause; numbered = record { above = above; there = ap (slice_get clauses) back ∙ c_at }; unit = unit }) in
    let holds : value_of other (old ++ e ∷ []) ≡ Some true = ap (λ z. value_of z (old ++ e ∷ [])) (sym lit_is) ∙ value_own old e free in (
      subst (λ (es : List Entry). IsStep vars clauses lists lists pairs pairs old es lit place) (sym new_is) step,
      (
        refl,
        λ x x_at c p c_there p_there apart which.
            let same : w ≡ x = same_Some w x (sym listed ∙ x_at) in
            let is : clause ≡ c = same_Some clause c (sym c_at ∙ ap (λ (y : Watch). slice_get clauses y.index) same ∙ c_there) in
            subst (λ (es : List Entry). IsSatisfied (lits_of es) c) (sym new_is)
            (subst (λ (y : List ℤ). IsSatisfied (lits_of (old ++ e ∷ [])) y) is
            (record { place = here.place; lit = other; there = here.there; holds = holds })),
      ),
    )
concluded vars clauses lists pairs old new lit place w clause other laid forced c_at valid here listed found Moved told = absurd told
concluded vars clauses lists pairs old new lit place w clause other laid forced c_at valid here listed found (Conflict n) told =
    let own : value_of other old ≡ Some false = value_false (value_of other old) told.0 found.0 in
    let above : 0 < n = omega (arith, told.1) in
    let back : n - 1 ≡ w.index = omega (arith, told.1) in (
      subst (λ (es : List Entry). IsStep vars clauses lists lists pairs pairs old es lit place) (sym told.2)
          (step_none vars clauses lists pairs old lit place laid forced),
      record {
        clause = clause;
        numbered = record { above = above; there = ap (slice_get clauses) back ∙ c_at };
        all_false = subst (λ (es : List Entry). IsFalse (lits_of es) clause) (sym told.2) (false_besides old clause other found.1 own);
      },
    )

-- a clause with a true literal is passed
pub passed_true : (clauses : List (List ℤ)) (lists : List (List Watch)) (pairs : List Pair) (es : List Entry) (lit : ℤ) (place : ℕ)
    (w v : Watch) (clause : List ℤ) (z : ℤ)
    → slice_get (list_at lists (code_of lit)) place ≡ Some w → code_of lit < length lists → v.index ≡ w.index
    → slice_get clauses w.index ≡ Some clause → IsIn clause z → value_of z es ≡ Some true
    → Visits clauses lists (set lists (code_of lit) (set (list_at lists (code_of lit)) place v)) pairs es lit place Kept
passed_true clauses lists pairs es lit place w v clause z listed lt same c_at here holds =
    let xs = list_at lists (code_of lit) in
    let list_is : list_at (set lists (code_of lit) (set xs place v)) (code_of lit) ≡ set xs place v =
    list_at_same lists (code_of lit) (set xs place v) lt in (
      ap length list_is ∙ length-set xs place v,
      λ x x_at c p c_there p_there apart which.
          let v_is : v ≡ x = same_Some v x (sym (get_set_same xs place v (slice_get_within xs place w listed))
          ∙ ap (λ l. slice_get l place) (sym list_is) ∙ x_at) in
          let is : clause ≡ c = same_Some clause c (sym c_at ∙ ap (slice_get clauses) (sym same ∙ ap (λ (y : Watch). y.index) v_is)
          ∙ c_there) in
          subst (λ (y : List ℤ). IsSatisfied (lits_of es) y) is
          (record { place = here.place; lit = z; there = here.there; holds = holds }),
    )
