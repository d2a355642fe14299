-- Watched clauses stay guarded.

use Rattle.std.proofs.Common.{◌≡◌, ◌≢◌, ℕ, ℤ, ◌+◌, ◌<◌, ◌≤◌, Bool, true, false, cond, List, [], ◌∷◌, ◌++◌, length, take, drop, get_or, filter, Option, Some, None, refl, sym, ap, subst, ◌∙◌, inl, inr, ⊎_elim, ◌⊎◌, arith}
use Rattle.std.specs.Prelude.{nat_le, slice_get, neg_ℤ}
use Rattle.std.proofs.lemmas.Bool.{cases_lt, cases_order}
use Rattle.std.proofs.lemmas.Bool.Decides.{nat_tests}
use Rattle.std.proofs.lemmas.List.{append-nil, take_all, take-append-drop, length-take-le, get_or-drop, drop-append-le, drop_all, length-append, length-drop, take-take}
use Rattle.std.proofs.lemmas.List.Elements.{All-nil, All-append, All-same, All-weaker}
use Rattle.std.proofs.lemmas.List.Sums.{sum_by-take-le}
use Rattle.std.proofs.lemmas.Option.{slice_get_within, get_or_from_slice_get, same_Some, none-some}
use Rattle.clause_base.specs.Truth.{lits_of, IsSatisfied, IsSettled}
use Rattle.clause_base.specs.declared.entry.Entry.{Entry}
use Rattle.trail.specs.Assignment.{value_of, step_of, level_of, Follows, IsTrail}
use Rattle.trail.proofs.Ends.{filter-low}
use Rattle.propagate.specs.Standing.{up_to}
use Rattle.propagate.specs.Propagation.{Extends}
use Rattle.propagate.specs.Queue.{IsQueue}
use Rattle.propagate.specs.Lists.{list_at}
use Rattle.propagate.specs.Watching.{code_of, IsIn, IsListed, IsGuarded, IsForGood, IsWatched, AreLaid, AreGuarded, ArePassed}
use Rattle.propagate.specs.declared.watch_lists.Watch.{Watch}
use Rattle.propagate.specs.declared.pairs.Pair.{Pair}
use Rattle.propagate.proofs.Extending.{level_extends, filter_above}
use Rattle.propagate.proofs.Forcing.{get_split, get_front}
use Rattle.propagate.proofs.SettledLevels.{up_to-back}
use Rattle.clause_base.proofs.ListLemmas.{take_there}
use Rattle.propagate.proofs.Values.{value_push_cases, value_one_false, value_seen, value_unseen, up_to_append, satisfied_append}

-- where entries are added a literal stays guarded
pub guarded_append : (seen es more : List Entry) (clause : List ℤ) (z : ℤ) → IsGuarded seen es clause z
    → IsGuarded seen (es ++ more) clause z
guarded_append seen es more clause z k l h =
    subst (λ (xs : List Entry). IsSatisfied (lits_of xs) clause) (sym (up_to_append l es more))
    (satisfied_append (up_to l es) (up_to l more) clause (k l h))

-- and a clause true for good
pub for_good_append : (es more : List Entry) (clause : List ℤ) → IsForGood es clause → IsForGood (es ++ more) clause
for_good_append es more clause k l =
    subst (λ (xs : List Entry). IsSatisfied (lits_of xs) clause) (sym (up_to_append l es more))
    (satisfied_append (up_to l es) (up_to l more) clause (k l))

-- and all that is guarded
pub are_guarded_append : (clauses : List (List ℤ)) (lists : List (List Watch)) (pairs : List Pair) (seen es more : List Entry)
    → AreGuarded clauses lists pairs seen es → AreGuarded clauses lists pairs seen (es ++ more)
are_guarded_append clauses lists pairs seen es more k n c p c_there p_there = ⊎_elim
    (λ (good : IsForGood es c). inl (for_good_append es more c good))
    (λ (w : IsWatched lists seen es n c p).
    inr (record {
      apart = w.apart;
      first_listed = w.first_listed;
      second_listed = w.second_listed;
      first_guarded = guarded_append seen es more c p.first w.first_guarded;
      second_guarded = guarded_append seen es more c p.second w.second_guarded;
    }))
    (k n c p c_there p_there)

-- lists that list as much
pub are_guarded_lists : (clauses : List (List ℤ)) (lists new : List (List Watch)) (pairs : List Pair) (seen es : List Entry)
    → ((n : ℕ) (z : ℤ) → IsListed lists n z → IsListed new n z) → AreGuarded clauses lists pairs seen es
    → AreGuarded clauses new pairs seen es
are_guarded_lists clauses lists new pairs seen es keeps k n c p c_there p_there = ⊎_elim
    (λ (good : IsForGood es c). inl good)
    (λ (w : IsWatched lists seen es n c p).
    inr (record {
      apart = w.apart;
      first_listed = keeps n p.first w.first_listed;
      second_listed = keeps n p.second w.second_listed;
      first_guarded = w.first_guarded;
      second_guarded = w.second_guarded;
    }))
    (k n c p c_there p_there)

-- one more entry is seen
guarded_see : (vars : ℕ) (es : List Entry) (h : ℕ) (p : Entry) (clause : List ℤ) (z : ℤ) → IsTrail vars es → slice_get es h ≡ Some p
    → p.level ≡ level_of es → IsGuarded (take h es) es clause z → (z ≡ neg_ℤ p.lit → IsSatisfied (lits_of es) clause)
    → IsGuarded (take (h + 1) es) es clause z
guarded_see vars es h p clause z t there present k own l e = by (nat_le p.level l) refl
  where
    f : Follows vars (take h es) p
    f = t h p there

    front : up_to l (take (h + 1) es) ≡ up_to l (take h es) ++ up_to l (p ∷ [])
    front = ap (up_to l) (take_there es h p there) ∙ up_to_append l (take h es) (p ∷ [])

    by : (b : Bool) → nat_le p.level l ≡ b → IsSatisfied (lits_of (up_to l es)) clause
    by false test =
        let same : up_to l (take (h + 1) es) ≡ up_to l (take h es) = front ∙ ap (λ c. up_to l (take h es) ++ cond c (p ∷ []) []) test
        ∙ append-nil (up_to l (take h es)) in
        k l (ap (value_of z) (sym same) ∙ e)
    by true test =
        let same : up_to l (take (h + 1) es) ≡ up_to l (take h es) ++ p ∷ [] = front
        ∙ ap (λ c. up_to l (take h es) ++ cond c (p ∷ []) []) test in
        ⊎_elim
        (λ (old : value_of z (up_to l (take h es)) ≡ Some false). k l old)
        (λ (new : value_of z (p ∷ []) ≡ Some false).
        let le : level_of es ≤ l = grind (arith, nat_tests) in
        subst (λ (xs : List Entry). IsSatisfied (lits_of xs) clause) (sym (filter-low vars es l t le))
        (own (value_one_false z p f.above new)))
        (value_push_cases z (up_to l (take h es)) p false (ap (value_of z) (sym same) ∙ e))

-- one more entry is seen, and every clause in the list of its negation was looked at
pub are_guarded_see : (vars : ℕ) (clauses : List (List ℤ)) (lists : List (List Watch)) (pairs : List Pair) (es : List Entry) (h : ℕ)
    (p : Entry)
    → IsTrail vars es → slice_get es h ≡ Some p → p.level ≡ level_of es
    → ArePassed clauses lists pairs es (neg_ℤ p.lit) (length (list_at lists (code_of (neg_ℤ p.lit))))
    → AreGuarded clauses lists pairs (take h es) es → AreGuarded clauses lists pairs (take (h + 1) es) es
are_guarded_see vars clauses lists pairs es h p t there present passed k n c q c_there q_there = ⊎_elim
    (λ (good : IsForGood es c). inl good)
    (λ (w : IsWatched lists (take h es) es n c q).
    inr (record {
      apart = w.apart;
      first_listed = w.first_listed;
      second_listed = w.second_listed;
      first_guarded = guarded_see vars es h p c q.first t there present w.first_guarded (λ is. looked w.apart w.first_listed is (inl is));
      second_guarded =
          guarded_see vars es h p c q.second t there present w.second_guarded (λ is. looked w.apart w.second_listed is (inr is));
    }))
    (k n c q c_there q_there)
  where
    looked : {z : ℤ} → q.first ≢ q.second → IsListed lists n z → z ≡ neg_ℤ p.lit → (q.first ≡ neg_ℤ p.lit) ⊎ (q.second ≡ neg_ℤ p.lit)
        → IsSatisfied (lits_of es) c
    looked apart i is which =
        let at : slice_get (list_at lists (code_of (neg_ℤ p.lit))) i.place ≡ Some i.watch =
        ap (λ x. slice_get (list_at lists (code_of x)) i.place) (sym is) ∙ i.there in
        passed i.place i.watch (slice_get_within (list_at lists (code_of (neg_ℤ p.lit))) i.place i.watch at) at c q
        (ap (slice_get clauses) i.names ∙ c_there) (ap (slice_get pairs) i.names ∙ q_there) apart which

-- where all entries are seen, a guarded clause is settled
settled_one : (vars : ℕ) (es : List Entry) (lists : List (List Watch)) (n : ℕ) (clause : List ℤ) (p : Pair) → IsTrail vars es
    → IsIn clause p.first → IsIn clause p.second → IsForGood es clause ⊎ IsWatched lists es es n clause p
    → IsSettled (lits_of es) clause
settled_one vars es lists n clause p t first second k = ⊎_elim
    (λ (good : IsForGood es clause). inl (at_end (good (level_of es))))
    (λ (w : IsWatched lists es es n clause p). by w (value_of p.first es) (value_of p.second es) refl refl)
    k
  where
    whole : up_to (level_of es) es ≡ es
    whole = let le : level_of es ≤ level_of es = omega arith in filter-low vars es (level_of es) t le

    at_end : IsSatisfied (lits_of (up_to (level_of es) es)) clause → IsSatisfied (lits_of es) clause
    at_end s = subst (λ (xs : List Entry). IsSatisfied (lits_of xs) clause) whole s

    at_false : (z : ℤ) → value_of z es ≡ Some false → value_of z (up_to (level_of es) es) ≡ Some false
    at_false z e = ap (value_of z) whole ∙ e

    by : IsWatched lists es es n clause p → (o q : Option Bool) → value_of p.first es ≡ o → value_of p.second es ≡ q
        → IsSettled (lits_of es) clause
    by w (Some true) q e f = inl (record { place = first.place; lit = p.first; there = first.there; holds = e })
    by w (Some false) q e f = inl (at_end (w.first_guarded (level_of es) (at_false p.first e)))
    by w None (Some true) e f = inl (record { place = second.place; lit = p.second; there = second.there; holds = f })
    by w None (Some false) e f = inl (at_end (w.second_guarded (level_of es) (at_false p.second f)))
    by w None None e f = ⊎_elim
        (λ (same : first.place ≡ second.place). absurd
        (w.apart (same_Some p.first p.second (sym first.there ∙ ap (slice_get clause) same ∙ second.there))))
        (λ (other : (first.place < second.place) ⊎ (second.place < first.place)). inr (⊎_elim
        (λ (lt : first.place < second.place). record {
          first = first.place;
          second = second.place;
          lit = p.first;
          other = p.second;
          apart = lt;
          there = first.there;
          next = second.there;
          unassigned = e;
          too = f;
        })
        (λ (gt : second.place < first.place). record {
          first = second.place;
          second = first.place;
          lit = p.second;
          other = p.first;
          apart = gt;
          there = second.there;
          next = first.there;
          unassigned = f;
          too = e;
        })
        other))
        (cases_order first.place second.place)

-- where all entries are seen, each clause with a pair is settled
pub settled_guarded : (vars : ℕ) (clauses : List (List ℤ)) (lists : List (List Watch)) (pairs : List Pair) (es : List Entry)
    → IsTrail vars es → AreLaid vars clauses lists pairs → AreGuarded clauses lists pairs (take (length es) es) es
    → (n : ℕ) (c : List ℤ) (p : Pair) → slice_get clauses n ≡ Some c → slice_get pairs n ≡ Some p → IsSettled (lits_of es) c
settled_guarded vars clauses lists pairs es t laid k n c p c_there p_there =
    let le : length es ≤ length es = omega arith in
    let two = laid.paired n c p c_there p_there in
    settled_one vars es lists n c p t two.0 two.1
    (subst (λ (xs : List Entry). IsForGood es c ⊎ IsWatched lists xs es n c p) (take_all (length es) es le) (k n c p c_there p_there))

-- a test that passes wherever another does changes nothing after it
filter_outer : (p q : Entry → Bool) → ((x : Entry) → q x ≡ true → p x ≡ true) → (es : List Entry) → filter p (filter q es) ≡ filter q es
filter_outer p q h [] = refl
filter_outer p q h (e ∷ es) = by (q e) refl (filter_outer p q h es)
  where
    by : (b : Bool) → q e ≡ b → filter p (filter q es) ≡ filter q es → filter p (filter q (e ∷ es)) ≡ filter q (e ∷ es)
    by true qb rest =
        ap (λ b. filter p (cond b (e ∷ filter q es) (filter q es))) qb
        ∙ ap (λ b. cond b (e ∷ filter p (filter q es)) (filter p (filter q es))) (h e qb) ∙ ap (λ l. e ∷ l) rest
        ∙ sym (ap (λ b. cond b (e ∷ filter q es) (filter q es)) qb)
    by false qb rest =
        ap (λ b. filter p (cond b (e ∷ filter q es) (filter q es))) qb ∙ rest ∙ sym (ap (λ b. cond b (e ∷ filter q es) (filter q es)) qb)

-- the end of a level at or above one that was gone back to
up_to_above : (l level : ℕ) (es : List Entry) → level ≤ l → up_to l (up_to level es) ≡ up_to level es
up_to_above l level es le = filter_outer (λ e. nat_le e.level l) (λ e. nat_le e.level level) (λ x h. passes x.level h) es
  where
    passes : (n : ℕ) → nat_le n level ≡ true → nat_le n l ≡ true
    passes n h = grind (arith, nat_tests)

-- a return keeps a literal guarded
guarded_back : (seen es : List Entry) (clause : List ℤ) (z : ℤ) (level : ℕ) → IsGuarded seen es clause z
    → IsGuarded (up_to level seen) (up_to level es) clause z
guarded_back seen es clause z level k l e = ⊎_elim
    (λ (lt : l < level).
    let le : l ≤ level = omega arith in
    subst (λ (xs : List Entry). IsSatisfied (lits_of xs) clause) (sym (up_to-back l level es le))
    (k l (ap (value_of z) (sym (up_to-back l level seen le)) ∙ e)))
    (λ (ge : level ≤ l).
    subst (λ (xs : List Entry). IsSatisfied (lits_of xs) clause) (sym (up_to_above l level es ge))
    (k level (ap (value_of z) (sym (up_to_above l level seen ge)) ∙ e)))
    (cases_lt l level)

-- and a clause true for good
for_good_back : (es : List Entry) (clause : List ℤ) (level : ℕ) → IsForGood es clause → IsForGood (up_to level es) clause
for_good_back es clause level k l = ⊎_elim
    (λ (lt : l < level). let le : l ≤ level = omega arith in
    subst (λ (xs : List Entry). IsSatisfied (lits_of xs) clause) (sym (up_to-back l level es le)) (k l))
    (λ (ge : level ≤ l). subst (λ (xs : List Entry). IsSatisfied (lits_of xs) clause) (sym (up_to_above l level es ge)) (k level))
    (cases_lt l level)

-- and all that is guarded
pub are_guarded_back : (clauses : List (List ℤ)) (lists : List (List Watch)) (pairs : List Pair) (seen es : List Entry) (level : ℕ)
    → AreGuarded clauses lists pairs seen es → AreGuarded clauses lists pairs (up_to level seen) (up_to level es)
are_guarded_back clauses lists pairs seen es level k n c p c_there p_there = ⊎_elim
    (λ (good : IsForGood es c). inl (for_good_back es c level good))
    (λ (w : IsWatched lists seen es n c p).
    inr (record {
      apart = w.apart;
      first_listed = w.first_listed;
      second_listed = w.second_listed;
      first_guarded = guarded_back seen es c p.first level w.first_guarded;
      second_guarded = guarded_back seen es c p.second level w.second_guarded;
    }))
    (k n c p c_there p_there)

-- one more clause, which has no pair
pub are_guarded_learn : (vars : ℕ) (clauses : List (List ℤ)) (clause : List ℤ) (lists : List (List Watch)) (pairs : List Pair)
    (seen es : List Entry)
    → AreLaid vars clauses lists pairs → AreGuarded clauses lists pairs seen es
    → AreGuarded (clauses ++ clause ∷ []) lists pairs seen es
are_guarded_learn vars clauses clause lists pairs seen es laid k n c p c_there p_there =
    let within : n < length pairs = slice_get_within pairs n p p_there in
    let fewer : length pairs ≤ length clauses = laid.fewer in
    ⊎_elim
    (λ (old : slice_get clauses n ≡ Some c). k n c p old p_there)
    (λ (last : (length clauses ≡ n) × (clause ≡ c)). let at : length clauses ≡ n = last.0 in absurd (omega arith))
    (get_split clauses clause n c c_there)

-- a pair for the first clause that has none
pub are_guarded_push : (clauses : List (List ℤ)) (lists : List (List Watch)) (pairs : List Pair) (seen es : List Entry)
    (clause : List ℤ) (p : Pair)
    → slice_get clauses (length pairs) ≡ Some clause → IsForGood es clause ⊎ IsWatched lists seen es (length pairs) clause p
    → AreGuarded clauses lists pairs seen es → AreGuarded clauses lists (pairs ++ p ∷ []) seen es
are_guarded_push clauses lists pairs seen es clause p there own k n c q c_there q_there = ⊎_elim
    (λ (old : slice_get pairs n ≡ Some q). k n c q c_there old)
    (λ (last : (length pairs ≡ n) × (p ≡ q)).
    let same : clause ≡ c = same_Some clause c (sym there ∙ ap (slice_get clauses) last.0 ∙ c_there) in
    subst (λ (m : ℕ). IsForGood es c ⊎ IsWatched lists seen es m c q) last.0
    (subst (λ (x : Pair). IsForGood es c ⊎ IsWatched lists seen es (length pairs) c x) last.1
    (subst (λ (x : List ℤ). IsForGood es x ⊎ IsWatched lists seen es (length pairs) x p) same own)))
    (get_split pairs p n q q_there)

-- a literal that is unassigned is guarded
pub guarded_free : (es : List Entry) (h : ℕ) (clause : List ℤ) (z : ℤ) → value_of z es ≡ None → IsGuarded (take h es) es clause z
guarded_free es h clause z free l e = absurd (none-some false (sym (value_unseen z es l h free) ∙ e))

-- and so is one that is not false
pub guarded_watchable : (vars : ℕ) (es : List Entry) (h : ℕ) (clause : List ℤ) (z : ℤ) → IsTrail vars es → value_of z es ≢ Some false
    → IsGuarded (take h es) es clause z
guarded_watchable vars es h clause z t not_false l e = absurd (not_false (value_seen vars es l h z false t e))

-- the queue after more literals are implied
pub queue_extends : (head : ℕ) (old new : List Entry) → Extends old new → IsQueue head old → IsQueue head new
queue_extends head old new x q =
    let le : head ≤ length old = q.within in
    let sized : length new ≡ length old + length x.added = ap length x.split ∙ length-append old x.added in
    let level : level_of old ≡ level_of new = sym (level_extends old new x) in
    record {
      within = omega arith;
      present =
          All-same (λ e. e.level ≡ level_of new) (drop head new) (drop head old ++ x.added) (ap (drop head) x.split
          ∙ drop-append-le head old x.added le)
          (All-append (λ e. e.level ≡ level_of new) (drop head old) x.added
          (All-weaker (λ e. e.level ≡ level_of old) (λ e. e.level ≡ level_of new) (λ e h. h ∙ level) (drop head old) q.present)
          (All-weaker (λ e. e.level ≡ level_of old) (λ e. e.level ≡ level_of new) (λ e h. h ∙ level) x.added x.present));
    }

-- where all is seen
pub queue_empty : (es : List Entry) → IsQueue (length es) es
queue_empty es =
    let le : length es ≤ length es = omega arith in
    record {
      within = le;
      present =
          All-same (λ e. e.level ≡ level_of es) (drop (length es) es) [] (drop_all (length es) es le)
          (All-nil (λ e. e.level ≡ level_of es));
    }

-- the first of the queue is of the present level
pub queue_first : (head : ℕ) (es : List Entry) (p : Entry) → IsQueue head es → slice_get es head ≡ Some p → p.level ≡ level_of es
queue_first head es p q there =
    let lt : head < length es = slice_get_within es head p there in
    let some : 0 < length (drop head es) = omega (arith, length-drop head es) in
    let place : head + 0 ≡ head = omega arith in
    ap (λ (x : Entry). x.level) (sym (get_or-drop head es 0 p ∙ ap (λ k. get_or es k p) place
    ∙ get_or_from_slice_get es head p p there)) ∙ q.present 0 p some

-- one more is seen
pub queue_see : (head : ℕ) (es : List Entry) → IsQueue head es → head < length es → IsQueue (head + 1) es
queue_see head es q lt = record { within = omega arith; present = λ i d within. rest i d within }
  where
    rest : (i : ℕ) (d : Entry) → i < length (drop (head + 1) es) → (get_or (drop (head + 1) es) i d).level ≡ level_of es
    rest i d within =
        let inside : i + 1 < length (drop head es) = omega (arith, length-drop head es, length-drop (head + 1) es) in
        let place : head + 1 + i ≡ head + (i + 1) = omega arith in
        ap (λ (x : Entry). x.level) (get_or-drop (head + 1) es i d ∙ ap (λ k. get_or es k d) place
        ∙ sym (get_or-drop head es (i + 1) d)) ∙ q.present (i + 1) d inside

-- what a return to a level leaves of the entries seen
pub seen_back : (vars : ℕ) (es new : List Entry) (head level next : ℕ) → IsTrail vars es → IsQueue head es → level ≤ level_of es
    → new ≡ up_to level es → new ≡ take (length new) es → (level < level_of es → next ≡ length new)
    → (level ≡ level_of es → next ≡ head) → take next new ≡ up_to level (take head es)
seen_back vars es new head level next t q le kept front below same = ⊎_elim
    (λ (lt : level < level_of es).
    let rest : up_to level (drop head es) ≡ [] = filter_above level (level_of es) lt (drop head es) q.present in
    let all : up_to level es ≡ up_to level (take head es) = ap (up_to level) (sym (take-append-drop head es))
    ∙ up_to_append level (take head es) (drop head es) ∙ ap (λ xs. up_to level (take head es) ++ xs) rest
    ∙ append-nil (up_to level (take head es)) in
    let reached : length new ≤ next = omega (arith, below lt) in
    take_all next new reached ∙ kept ∙ all)
    (λ (ge : level_of es ≤ level).
    let at : level ≡ level_of es = omega arith in
    let whole : new ≡ es = kept ∙ filter-low vars es level t ge in
    let low : level_of (take head es) ≤ level = omega (arith, sum_by-take-le step_of es head) in
    ap (λ n. take n new) (same at) ∙ ap (take head) whole
    ∙ sym (filter-low vars (take head es) level (trail_front vars es head t q.within) low))
    (cases_lt level (level_of es))
  where
    trail_front : (vars : ℕ) (es : List Entry) (h : ℕ) → IsTrail vars es → h ≤ length es → IsTrail vars (take h es)
    trail_front vars es h t within i e there =
        let sized : length (take h es) ≡ h = length-take-le h es within in
        let lt : i < h = omega (arith, slice_get_within (take h es) i e there) in
        let le : i ≤ h = omega arith in
        let fronts : take (length (take h es)) es ≡ take h es = ap (λ n. take n es) sized in
        subst (λ (xs : List Entry). Follows vars xs e) (sym (take-take i h es le))
        (t i e (get_front es (take h es) (sym fronts) i e there))
