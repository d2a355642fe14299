-- What the lists of watching clauses keep where one of them is changed.

use Rattle.std.proofs.Common.{◌≡◌, ◌≢◌, ℕ, ℤ, pos, negsuc, suc, ◌+◌, ◌*◌, ◌<◌, ◌≤◌, List, [], ◌∷◌, ◌++◌, length, set, Some, refl, sym, ap, subst, ◌∙◌, ⊎_elim, ◌⊎◌, arith}
use Rattle.std.specs.Prelude.{slice_get}
use Rattle.std.specs.List.{swap_remove}
use Rattle.std.proofs.lemmas.Bool.{cases_lt, cases_eq}
use Rattle.std.proofs.lemmas.List.{length-set, get_or-set_same, get_or-set_other, set_past, length_push}
use Rattle.std.proofs.lemmas.Option.{slice_get_within, same_Some}
use Rattle.propagate.specs.Lists.{list_at}
use Rattle.propagate.specs.Watching.{code_of, IsIn, IsListed, IsEntry, AreLaid}
use Rattle.propagate.specs.declared.watch_lists.Watch.{Watch}
use Rattle.propagate.specs.declared.pairs.Pair.{Pair}
use Rattle.propagate.proofs.Forcing.{get_left, get_split}
use Rattle.clause_base.proofs.ListLemmas.{get_set_same, get_set_other, get_set_cases}
use Rattle.propagate.proofs.Places.{get_last, get_left_there, get_kept}

-- the changed list
pub list_at_same : (lists : List (List Watch)) (code : ℕ) (xs : List Watch) → code < length lists → list_at (set lists code xs) code ≡ xs
list_at_same lists code xs lt = get_or-set_same lists code xs [] lt

-- another list
pub list_at_other : (lists : List (List Watch)) (code other : ℕ) (xs : List Watch) → other ≢ code
    → list_at (set lists code xs) other ≡ list_at lists other
list_at_other lists code other xs ne = get_or-set_other lists code other xs [] ne

-- a list that has more, or the same in other places, lists the same clauses
pub listed_changed : (lists : List (List Watch)) (code : ℕ) (xs : List Watch) (n : ℕ) (z : ℤ) → code < length lists → IsListed lists n z
    → ((place : ℕ) (w : Watch) → slice_get (list_at lists code) place ≡ Some w → w.index ≡ n → code_of z ≡ code
    → (j : ℕ) × (v : Watch) × (slice_get xs j ≡ Some v) × (v.index ≡ n)) → IsListed (set lists code xs) n z
listed_changed lists code xs n z lt k keeps = ⊎_elim
    (λ (same : code_of z ≡ code).
    let there : slice_get (list_at lists code) k.place ≡ Some k.watch = ap (λ c. slice_get (list_at lists c) k.place) (sym same)
    ∙ k.there in
    let f = keeps k.place k.watch there k.names same in
    record {
      place = f.0;
      watch = f.1;
      there = ap (λ c. slice_get (list_at (set lists code xs) c) f.0) same
          ∙ ap (λ l. slice_get l f.0) (list_at_same lists code xs lt) ∙ f.2;
      names = f.3;
    })
    (λ (other : code_of z ≡ code → ⊥).
    record {
      place = k.place;
      watch = k.watch;
      there = ap (λ l. slice_get l k.place) (list_at_other lists code (code_of z) xs other)
          ∙ k.there;
      names = k.names;
    })
    (cases_eq (code_of z) code)

-- one more clause in a list
pub listed_push : (lists : List (List Watch)) (code : ℕ) (w : Watch) (n : ℕ) (z : ℤ) → code < length lists → IsListed lists n z
    → IsListed (set lists code (list_at lists code ++ w ∷ [])) n z
listed_push lists code w n z lt k =
    listed_changed lists code (list_at lists code ++ w ∷ []) n z lt k
    (λ place v there names same. (place, v, get_left (list_at lists code) w place v there, names))

-- the clause itself
pub listed_here : (lists : List (List Watch)) (z : ℤ) (w : Watch) → code_of z < length lists
    → IsListed (set lists (code_of z) (list_at lists (code_of z) ++ w ∷ [])) w.index z
listed_here lists z w lt =
    let xs = list_at lists (code_of z) in
    record {
      place = length xs;
      watch = w;
      there = ap (λ l. slice_get l (length xs)) (list_at_same lists (code_of z) (xs ++ w ∷ []) lt)
          ∙ get_last xs w;
      names = refl;
    }

-- another blocker
pub listed_set : (lists : List (List Watch)) (code place : ℕ) (w v : Watch) (n : ℕ) (z : ℤ) → code < length lists
    → slice_get (list_at lists code) place ≡ Some w → v.index ≡ w.index → IsListed lists n z
    → IsListed (set lists code (set (list_at lists code) place v)) n z
listed_set lists code place w v n z lt there same k = listed_changed lists code (set (list_at lists code) place v) n z lt k keeps
  where
    keeps : (at : ℕ) (x : Watch) → slice_get (list_at lists code) at ≡ Some x → x.index ≡ n → code_of z ≡ code
        → (j : ℕ) × (y : Watch) × (slice_get (set (list_at lists code) place v) j ≡ Some y) × (y.index ≡ n)
    keeps at x at_there names codes = ⊎_elim
        (λ (here : at ≡ place).
        let is : w ≡ x = same_Some w x (sym there ∙ ap (slice_get (list_at lists code)) (sym here) ∙ at_there) in (
          place,
          v,
          get_set_same (list_at lists code) place v (slice_get_within (list_at lists code) place w there),
          same
              ∙ ap (λ (y : Watch). y.index) is ∙ names,
        ))
        (λ (away : at ≡ place → ⊥). (at, x, get_set_other (list_at lists code) place at v away ∙ at_there, names))
        (cases_eq at place)

-- a clause is taken out of a list: the others stay, and so does it in other lists
pub listed_removed : (lists : List (List Watch)) (code place : ℕ) (w : Watch) (n : ℕ) (z : ℤ) → code < length lists
    → slice_get (list_at lists code) place ≡ Some w → (w.index ≢ n) ⊎ (code_of z ≢ code) → IsListed lists n z
    → IsListed (set lists code (swap_remove (list_at lists code) place w)) n z
listed_removed lists code place w n z lt there apart k =
    listed_changed lists code (swap_remove (list_at lists code) place w) n z lt k keeps
  where
    within : place < length (list_at lists code)
    within = slice_get_within (list_at lists code) place w there

    keeps : (at : ℕ) (x : Watch) → slice_get (list_at lists code) at ≡ Some x → x.index ≡ n → code_of z ≡ code
        → (j : ℕ) × (y : Watch) × (slice_get (swap_remove (list_at lists code) place w) j ≡ Some y) × (y.index ≡ n)
    keeps at x at_there names codes =
        let away : at ≢ place = λ here.
        let is : w ≡ x = same_Some w x (sym there ∙ ap (slice_get (list_at lists code)) (sym here) ∙ at_there) in
        ⊎_elim (λ (ne : w.index ≢ n). ne (ap (λ (y : Watch). y.index) is ∙ names)) (λ (ne : code_of z ≢ code). ne codes) apart in
        let f = get_kept (list_at lists code) place at w x within away at_there in
        (f.0, x, f.1, names)

-- lists and pairs still lie well where each clause in the changed list is there
pub laid_changed : (vars : ℕ) (clauses : List (List ℤ)) (lists : List (List Watch)) (pairs : List Pair) (code : ℕ) (xs : List Watch)
    → AreLaid vars clauses lists pairs → ((i : ℕ) (w : Watch) → slice_get xs i ≡ Some w → IsEntry clauses w)
    → AreLaid vars clauses (set lists code xs) pairs
laid_changed vars clauses lists pairs code xs k valid =
    record { sized = length-set lists code xs ∙ k.sized; fewer = k.fewer; listed = listed; paired = k.paired }
  where
    listed : (at i : ℕ) (w : Watch) → slice_get (list_at (set lists code xs) at) i ≡ Some w → IsEntry clauses w
    listed at i w there = ⊎_elim
        (λ (lt : code < length lists). ⊎_elim
        (λ (same : at ≡ code). valid i w (ap (λ l. slice_get l i) (sym (list_at_same lists code xs lt))
        ∙ ap (λ c. slice_get (list_at (set lists code xs) c) i) (sym same) ∙ there))
        (λ (other : at ≡ code → ⊥). k.listed at i w (ap (λ l. slice_get l i) (sym (list_at_other lists code at xs other)) ∙ there))
        (cases_eq at code))
        (λ (past : length lists ≤ code). k.listed at i w (ap (λ ls. slice_get (list_at ls at) i) (sym (set_past lists code xs past))
        ∙ there))
        (cases_lt code (length lists))

-- one more clause in a list
pub laid_push : (vars : ℕ) (clauses : List (List ℤ)) (lists : List (List Watch)) (pairs : List Pair) (code : ℕ) (w : Watch)
    → AreLaid vars clauses lists pairs → IsEntry clauses w → AreLaid vars clauses (set lists code (list_at lists code ++ w ∷ [])) pairs
laid_push vars clauses lists pairs code w k e =
    laid_changed vars clauses lists pairs code (list_at lists code ++ w ∷ []) k (λ i v there. ⊎_elim
    (λ (old : slice_get (list_at lists code) i ≡ Some v). k.listed code i v old)
    (λ (last : (length (list_at lists code) ≡ i) × (w ≡ v)). subst (IsEntry clauses) last.1 e)
    (get_split (list_at lists code) w i v there))

-- another blocker
pub laid_set : (vars : ℕ) (clauses : List (List ℤ)) (lists : List (List Watch)) (pairs : List Pair) (code place : ℕ) (w : Watch)
    → AreLaid vars clauses lists pairs → IsEntry clauses w
    → AreLaid vars clauses (set lists code (set (list_at lists code) place w)) pairs
laid_set vars clauses lists pairs code place w k e =
    laid_changed vars clauses lists pairs code (set (list_at lists code) place w) k (λ i v there. ⊎_elim
    (λ (new : (i ≡ place) × (w ≡ v)). subst (IsEntry clauses) new.1 e)
    (λ (old : slice_get (list_at lists code) i ≡ Some v). k.listed code i v old)
    (get_set_cases (list_at lists code) place i w v there))

-- a clause is taken out of a list
pub laid_removed : (vars : ℕ) (clauses : List (List ℤ)) (lists : List (List Watch)) (pairs : List Pair) (code place : ℕ) (w : Watch)
    → AreLaid vars clauses lists pairs → place < length (list_at lists code)
    → AreLaid vars clauses (set lists code (swap_remove (list_at lists code) place w)) pairs
laid_removed vars clauses lists pairs code place w k lt =
    laid_changed vars clauses lists pairs code (swap_remove (list_at lists code) place w) k
    (λ i v there. let f = get_left_there (list_at lists code) place i w v lt there in k.listed code f.0 v f.1)

-- another pair, of two literals of the clause
pub laid_pair : (vars : ℕ) (clauses : List (List ℤ)) (lists : List (List Watch)) (pairs : List Pair) (n : ℕ) (clause : List ℤ) (p : Pair)
    → AreLaid vars clauses lists pairs → slice_get clauses n ≡ Some clause → IsIn clause p.first → IsIn clause p.second
    → AreLaid vars clauses lists (set pairs n p)
laid_pair vars clauses lists pairs n clause p k there first second =
    record { sized = k.sized; fewer = omega (arith, k.fewer, length-set pairs n p); listed = k.listed; paired = paired }
  where
    paired : (m : ℕ) (c : List ℤ) (q : Pair) → slice_get clauses m ≡ Some c → slice_get (set pairs n p) m ≡ Some q
        → IsIn c q.first × IsIn c q.second
    paired m c q c_there q_there = ⊎_elim
        (λ (new : (m ≡ n) × (p ≡ q)).
        let same : clause ≡ c = same_Some clause c (sym there ∙ ap (slice_get clauses) (sym new.0) ∙ c_there) in
        subst (λ (x : Pair). IsIn c x.first × IsIn c x.second) new.1
        (subst (λ (x : List ℤ). IsIn x p.first) same first, subst (λ (x : List ℤ). IsIn x p.second) same second))
        (λ (old : slice_get pairs m ≡ Some q). k.paired m c q c_there old)
        (get_set_cases pairs n m p q q_there)

-- a pair for one more clause
pub laid_pair_push : (vars : ℕ) (clauses : List (List ℤ)) (lists : List (List Watch)) (pairs : List Pair) (clause : List ℤ) (p : Pair)
    → AreLaid vars clauses lists pairs → slice_get clauses (length pairs) ≡ Some clause → IsIn clause p.first → IsIn clause p.second
    → AreLaid vars clauses lists (pairs ++ p ∷ [])
laid_pair_push vars clauses lists pairs clause p k there first second =
    record {
      sized = k.sized;
      fewer = omega (arith, slice_get_within clauses (length pairs) clause there, length_push pairs p);
      listed = k.listed;
      paired = paired;
    }
  where
    paired : (m : ℕ) (c : List ℤ) (q : Pair) → slice_get clauses m ≡ Some c → slice_get (pairs ++ p ∷ []) m ≡ Some q
        → IsIn c q.first × IsIn c q.second
    paired m c q c_there q_there = ⊎_elim
        (λ (old : slice_get pairs m ≡ Some q). k.paired m c q c_there old)
        (λ (last : (length pairs ≡ m) × (p ≡ q)).
        let same : clause ≡ c = same_Some clause c (sym there ∙ ap (slice_get clauses) last.0 ∙ c_there) in
        subst (λ (x : Pair). IsIn c x.first × IsIn c x.second) last.1
        (subst (λ (x : List ℤ). IsIn x p.first) same first, subst (λ (x : List ℤ). IsIn x p.second) same second))
        (get_split pairs p m q q_there)

-- one more clause
pub laid_learn : (vars : ℕ) (clauses : List (List ℤ)) (clause : List ℤ) (lists : List (List Watch)) (pairs : List Pair)
    → AreLaid vars clauses lists pairs → AreLaid vars (clauses ++ clause ∷ []) lists pairs
laid_learn vars clauses clause lists pairs k =
    record { sized = k.sized; fewer = omega (arith, k.fewer, length_push clauses clause); listed = listed; paired = paired }
  where
    listed : (code i : ℕ) (w : Watch) → slice_get (list_at lists code) i ≡ Some w → IsEntry (clauses ++ clause ∷ []) w
    listed code i w there =
        let e = k.listed code i w there in
        record { clause = e.clause; there = get_left clauses clause w.index e.clause e.there; blocker_in = e.blocker_in }

    paired : (m : ℕ) (c : List ℤ) (q : Pair) → slice_get (clauses ++ clause ∷ []) m ≡ Some c → slice_get pairs m ≡ Some q
        → IsIn c q.first × IsIn c q.second
    paired m c q c_there q_there =
        let within : m < length pairs = slice_get_within pairs m q q_there in
        let fewer : length pairs ≤ length clauses = k.fewer in
        ⊎_elim
        (λ (old : slice_get clauses m ≡ Some c). k.paired m c q old q_there)
        (λ (last : (length clauses ≡ m) × (clause ≡ c)). let at : length clauses ≡ m = last.0 in absurd (omega arith))
        (get_split clauses clause m c c_there)

-- two literals with one code are one
pub code_apart : (x y : ℤ) → code_of x ≡ code_of y → x ≡ y
code_apart (pos a) (pos b) h = ap pos (omega (arith, h))
code_apart (pos a) (negsuc b) h = absurd (odd a (suc b) h)
  where
    odd : (m n : ℕ) → 2 * m + 1 ≡ 2 * n + 0 → ⊥
    odd m n e = omega arith
code_apart (negsuc a) (pos b) h = absurd (odd b (suc a) (sym h))
  where
    odd : (m n : ℕ) → 2 * m + 1 ≡ 2 * n + 0 → ⊥
    odd m n e = omega arith
code_apart (negsuc a) (negsuc b) h = ap negsuc (inner a b h)
  where
    inner : (m n : ℕ) → 2 * suc m + 0 ≡ 2 * suc n + 0 → m ≡ n
    inner m n e = omega arith
