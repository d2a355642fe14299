-- What a look at a watching clause does, of lists alone.

use Rattle.std.proofs.Common.{◌≡◌, ◌≢◌, ℕ, ℤ, ◌+◌, ◌<◌, ◌≤◌, false, Bool, List, [], ◌∷◌, ◌++◌, length, take, get_or, set, Some, sym, ap, subst, ◌∙◌, inl, inr, ⊎_elim, ◌⊎◌, arith}
use Rattle.std.specs.Prelude.{slice_get}
use Rattle.std.specs.List.{swap_remove}
use Rattle.std.proofs.lemmas.List.{length-set, length-append, get_or_append_left, length-take, take_min, take-append-le}
use Rattle.std.proofs.lemmas.Bool.{cases_eq, cases_lt}
use Rattle.std.proofs.lemmas.Option.{slice_get_within, slice_get-get_or, get_or_from_slice_get, same_Some}
use Rattle.clause_base.specs.Truth.{lits_of, Forces}
use Rattle.clause_base.specs.declared.entry.Entry.{Entry}
use Rattle.trail.specs.Assignment.{value_of, level_of, IsTrail}
use Rattle.propagate.specs.Standing.{AreForced, up_to}
use Rattle.propagate.specs.Propagation.{Extends}
use Rattle.propagate.specs.Lists.{list_at}
use Rattle.propagate.specs.Watching.{code_of, IsIn, IsListed, IsEntry, IsPartner, IsForGood, IsWatched, AreLaid, AreGuarded, IsPassed, ArePassed}
use Rattle.propagate.specs.Visits.{IsHandedOn, IsStep}
use Rattle.propagate.specs.declared.watch_lists.Watch.{Watch}
use Rattle.propagate.specs.declared.pairs.Pair.{Pair}
use Rattle.propagate.proofs.Extending.{Extends_none, Extends_push, Extends_trans}
use Rattle.propagate.proofs.Forcing.{AreForced_push}
use Rattle.clause_base.proofs.ListLemmas.{get_set_same, get_set_other, get_set_cases}
use Rattle.propagate.proofs.Places.{get_swapped, length_swapped}
use Rattle.propagate.proofs.Listed.{list_at_same, list_at_other, listed_push, listed_here, listed_set, listed_removed, laid_push, laid_set, laid_removed, laid_pair, code_apart}
use Rattle.propagate.proofs.Guarding.{are_guarded_append, are_guarded_lists, guarded_watchable}
use Rattle.propagate.proofs.Values.{satisfied_append, value_append}

-- nothing changes
pub step_none : (vars : ℕ) (clauses : List (List ℤ)) (lists : List (List Watch)) (pairs : List Pair) (es : List Entry) (lit : ℤ)
    (place : ℕ)
    → AreLaid vars clauses lists pairs → AreForced clauses es → IsStep vars clauses lists lists pairs pairs es es lit place
step_none vars clauses lists pairs es lit place laid forced =
    record { forced = forced; extends = Extends_none es; laid = laid; guarded = λ head k. k; passed = λ count le k. k }

-- a literal is implied
pub step_implied : (vars : ℕ) (clauses : List (List ℤ)) (lists : List (List Watch)) (pairs : List Pair) (es : List Entry) (e : Entry)
    (lit : ℤ) (place : ℕ)
    → AreLaid vars clauses lists pairs → AreForced clauses es → 0 < e.reason → e.level ≡ level_of es
    → Forces (lits_of es) clauses e.reason e.lit → IsStep vars clauses lists lists pairs pairs es (es ++ e ∷ []) lit place
step_implied vars clauses lists pairs es e lit place laid forced implied present own = record {
  forced = AreForced_push clauses es e forced (λ above. own);
  extends = Extends_push es e implied present;
  laid = laid;
  guarded = λ head k. are_guarded_append clauses lists pairs (take head es) es (e ∷ []) k;
  passed =
      λ count le k i w lt there c p c_there p_there apart which. satisfied_append es (e ∷ []) c
      (k i w lt there c p c_there p_there apart which);
}

-- another blocker is set
pub step_blocker : (vars : ℕ) (clauses : List (List ℤ)) (lists : List (List Watch)) (pairs : List Pair) (es : List Entry) (lit : ℤ)
    (place : ℕ) (w v : Watch)
    → AreLaid vars clauses lists pairs → AreForced clauses es → code_of lit < length lists
    → slice_get (list_at lists (code_of lit)) place ≡ Some w → v.index ≡ w.index → IsEntry clauses v
    → IsStep vars clauses lists (set lists (code_of lit) (set (list_at lists (code_of lit)) place v)) pairs pairs es es lit place
step_blocker vars clauses lists pairs es lit place w v laid forced lt there same valid = record {
  forced = forced;
  extends = Extends_none es;
  laid = laid_set vars clauses lists pairs (code_of lit) place v laid valid;
  guarded =
      λ head k. are_guarded_lists clauses lists (set lists (code_of lit) (set (list_at lists (code_of lit)) place v)) pairs
      (take head es) es (λ n z listed. listed_set lists (code_of lit) place w v n z lt there same listed) k;
  passed = passed;
}
  where
    passed : (count : ℕ) → count ≤ place → ArePassed clauses lists pairs es lit count
        → ArePassed clauses (set lists (code_of lit) (set (list_at lists (code_of lit)) place v)) pairs es lit count
    passed count le k i x below at =
        let ne : i ≢ place = λ h. absurd (omega arith) in
        k i x below (sym (get_set_other (list_at lists (code_of lit)) place i v ne)
        ∙ ap (λ l. slice_get l i) (sym (list_at_same lists (code_of lit) (set (list_at lists (code_of lit)) place v) lt)) ∙ at)

-- what stands before the hole was there
left_before : {X : Type 0} (xs : List X) (i k : ℕ) (d x : X) → i < length xs → k < i → slice_get (swap_remove xs i d) k ≡ Some x
    → slice_get xs k ≡ Some x
left_before xs i k d x lt below there =
    let within : k < length xs = omega arith in
    let ne : k ≢ i = λ h. absurd (omega arith) in
    let before : k + 1 < length xs = omega arith in
    let at : slice_get xs k ≡ Some (get_or xs k x) = slice_get-get_or xs k x within in
    let is : get_or xs k x ≡ x = same_Some (get_or xs k x) x (sym (get_swapped xs i k d (get_or xs k x) lt ne before at) ∙ there) in
    at ∙ ap Some is

-- the clause was handed on to another list
pub step_moved : (vars : ℕ) (clauses : List (List ℤ)) (lists new : List (List Watch)) (pairs after : List Pair) (es : List Entry)
    (lit next other : ℤ) (place : ℕ) (w : Watch) (clause : List ℤ)
    → IsTrail vars es → AreLaid vars clauses lists pairs → AreForced clauses es → code_of lit < length lists → code_of next < length lists
    → slice_get (list_at lists (code_of lit)) place ≡ Some w → slice_get clauses w.index ≡ Some clause
    → ((p : Pair) → slice_get pairs w.index ≡ Some p → IsPartner p lit other) → w.index < length pairs → IsIn clause next
    → IsIn clause other → next ≢ other → other ≢ lit → value_of lit es ≡ Some false → value_of next es ≢ Some false
    → IsHandedOn lists new pairs after lit next other place w
    → IsStep vars clauses lists new pairs after es es lit place
    × (length (list_at new (code_of lit)) + 1 ≡ length (list_at lists (code_of lit)))
step_moved vars clauses lists new pairs after es lit next other place w clause t laid forced lit_lt next_lt there clause_there partner
    paired next_in other_in apart other_ne lit_false next_not h = (
      record {
        forced = forced;
        extends = Extends_none es;
        laid = new_laid;
        guarded = guarded;
        passed = passed;
      },
      shorter,
    )
  where
    pushed : List (List Watch)
    pushed = set lists (code_of next) (list_at lists (code_of next) ++ h.handed ∷ [])

    next_ne : next ≢ lit
    next_ne same = next_not (ap (λ z. value_of z es) same ∙ lit_false)

    codes : code_of lit ≢ code_of next
    codes same = next_ne (sym (code_apart lit next same))

    other_codes : code_of other ≢ code_of lit
    other_codes same = other_ne (code_apart other lit same)

    pushed_lt : code_of lit < length pushed
    pushed_lt = omega (arith, length-set lists (code_of next) (list_at lists (code_of next) ++ h.handed ∷ []), lit_lt)

    same_list : list_at pushed (code_of lit) ≡ list_at lists (code_of lit)
    same_list = list_at_other lists (code_of next) (code_of lit) (list_at lists (code_of next) ++ h.handed ∷ []) codes

    within : place < length (list_at lists (code_of lit))
    within = slice_get_within (list_at lists (code_of lit)) place w there

    pushed_there : slice_get (list_at pushed (code_of lit)) place ≡ Some w
    pushed_there = ap (λ l. slice_get l place) same_list ∙ there

    handed_entry : IsEntry clauses h.handed
    handed_entry =
        record {
          clause = clause;
          there = ap (slice_get clauses) h.index_is ∙ clause_there;
          blocker_in = subst (IsIn clause) (sym h.blocker_is) other_in;
        }

    new_laid : AreLaid vars clauses new after
    new_laid =
        let one = laid_push vars clauses lists pairs (code_of next) h.handed laid handed_entry in
        let two = laid_removed vars clauses pushed pairs (code_of lit) place w one
        (slice_get_within (list_at pushed (code_of lit)) place w pushed_there) in
        let three = laid_pair vars clauses
        (set pushed (code_of lit) (swap_remove (list_at pushed (code_of lit)) place w)) pairs w.index clause h.pair two clause_there
        (subst (IsIn clause) (sym h.first_is) next_in) (subst (IsIn clause) (sym h.second_is) other_in) in
        subst (λ (l : List (List Watch)). AreLaid vars clauses l after) (sym h.new_is)
        (subst (λ (ps : List Pair). AreLaid vars clauses
        (set pushed (code_of lit) (swap_remove (list_at pushed (code_of lit)) place w)) ps) (sym h.after_is) three)

    new_list : list_at new (code_of lit) ≡ swap_remove (list_at lists (code_of lit)) place w
    new_list =
        ap (λ ls. list_at ls (code_of lit)) h.new_is
        ∙ list_at_same pushed (code_of lit) (swap_remove (list_at pushed (code_of lit)) place w) pushed_lt
        ∙ ap (λ l. swap_remove l place w) same_list

    shorter : length (list_at new (code_of lit)) + 1 ≡ length (list_at lists (code_of lit))
    shorter = ap (λ l. length l + 1) new_list ∙ length_swapped (list_at lists (code_of lit)) place w within

    passed : (count : ℕ) → count ≤ place → ArePassed clauses lists pairs es lit count → ArePassed clauses new after es lit count
    passed count le k i x below at c p c_there p_there p_apart which =
        let before : i < place = omega arith in
        let old_at : slice_get (list_at lists (code_of lit)) i ≡ Some x =
        left_before (list_at lists (code_of lit)) place i w x within before (ap (λ l. slice_get l i) (sym new_list) ∙ at) in
        ⊎_elim
        (λ (is : (x.index ≡ w.index) × (h.pair ≡ p)). absurd (⊎_elim
        (λ (first : p.first ≡ lit). next_ne (sym h.first_is ∙ ap (λ (q : Pair). q.first) is.1 ∙ first))
        (λ (second : p.second ≡ lit). other_ne (sym h.second_is ∙ ap (λ (q : Pair). q.second) is.1 ∙ second))
        which))
        (λ (old : slice_get pairs x.index ≡ Some p). k i x below old_at c p c_there old p_apart which)
        (get_set_cases pairs w.index x.index h.pair p (ap (λ ps. slice_get ps x.index) (sym h.after_is) ∙ p_there))

    moves : (n : ℕ) (z : ℤ) → (w.index ≢ n) ⊎ (code_of z ≢ code_of lit) → IsListed pushed n z → IsListed new n z
    moves n z away k =
        subst (λ (ls : List (List Watch)). IsListed ls n z) (sym h.new_is)
        (listed_removed pushed (code_of lit) place w n z pushed_lt pushed_there away k)

    grows : (n : ℕ) (z : ℤ) → IsListed lists n z → IsListed pushed n z
    grows n z k = listed_push lists (code_of next) h.handed n z next_lt k

    guarded : (head : ℕ) → AreGuarded clauses lists pairs (take head es) es → AreGuarded clauses new after (take head es) es
    guarded head k n c p c_there p_there = ⊎_elim
        (λ (is : (n ≡ w.index) × (h.pair ≡ p)). own (is.0) is.1)
        (λ (old : slice_get pairs n ≡ Some p). others old)
        (get_set_cases pairs w.index n h.pair p (ap (λ ps. slice_get ps n) (sym h.after_is) ∙ p_there))
      where
        keep : slice_get pairs n ≡ Some p → (w.index ≢ n) → IsForGood es c ⊎ IsWatched new (take head es) es n c p
        keep old ne = ⊎_elim
            (λ (good : IsForGood es c). inl good)
            (λ (x : IsWatched lists (take head es) es n c p).
            inr (record {
              apart = x.apart;
              first_listed = moves n p.first (inl ne) (grows n p.first x.first_listed);
              second_listed = moves n p.second (inl ne) (grows n p.second x.second_listed);
              first_guarded = x.first_guarded;
              second_guarded = x.second_guarded;
            }))
            (k n c p c_there old)

        own : n ≡ w.index → h.pair ≡ p → IsForGood es c ⊎ IsWatched new (take head es) es n c p
        own at is =
            let q = get_or pairs w.index p in
            let q_at : slice_get pairs n ≡ Some q = ap (slice_get pairs) at ∙ slice_get-get_or pairs w.index p paired in
            let side = partner q (slice_get-get_or pairs w.index p paired) in
            let first_is : next ≡ p.first = sym h.first_is ∙ ap (λ (x : Pair). x.first) is in
            let second_is : other ≡ p.second = sym h.second_is ∙ ap (λ (x : Pair). x.second) is in
            ⊎_elim
            (λ (good : IsForGood es c). inl good)
            (λ (x : IsWatched lists (take head es) es n c q).
            let listed : IsListed lists n other =
            ⊎_elim (λ (s : (q.first ≡ lit) × (q.second ≡ other)). subst (λ (z : ℤ). IsListed lists n z) s.1 x.second_listed)
            (λ (s : (q.second ≡ lit) × (q.first ≡ other)). subst (λ (z : ℤ). IsListed lists n z) s.1 x.first_listed) side.1 in
            inr (record {
              apart = λ same. apart (first_is ∙ same ∙ sym second_is);
              first_listed =
                  subst (λ (z : ℤ). IsListed new n z) first_is
                  (moves n next (inr (λ same. codes (sym same)))
                  (subst (λ (m : ℕ). IsListed pushed m next) (h.index_is ∙ sym at) (listed_here lists next h.handed next_lt)));
              second_listed = subst (λ (z : ℤ). IsListed new n z) second_is (moves n other (inr other_codes) (grows n other listed));
              first_guarded = λ l e. guarded_watchable vars es head c next t next_not l
                  (ap (λ z. value_of z (up_to l (take head es))) first_is ∙ e);
              second_guarded = λ l e. ⊎_elim
                  (λ (s : (q.first ≡ lit) × (q.second ≡ other)). x.second_guarded l
                  (ap (λ z. value_of z (up_to l (take head es))) (s.1 ∙ second_is) ∙ e))
                  (λ (s : (q.second ≡ lit) × (q.first ≡ other)). x.first_guarded l
                  (ap (λ z. value_of z (up_to l (take head es))) (s.1 ∙ second_is) ∙ e))
                  side.1;
            }))
            (k n c q c_there q_at)

        others : slice_get pairs n ≡ Some p → IsForGood es c ⊎ IsWatched new (take head es) es n c p
        others old = ⊎_elim
            (λ (same : n ≡ w.index). own same
            (same_Some h.pair p (sym (get_set_same pairs w.index h.pair paired) ∙ ap (slice_get (set pairs w.index h.pair)) (sym same)
            ∙ ap (λ ps. slice_get ps n) (sym h.after_is) ∙ p_there)))
            (λ (ne : n ≡ w.index → ⊥). keep old (λ e. ne (sym e)))
            (cases_eq n w.index)

-- a front is one of more entries
pub front_same : (h : ℕ) (es more : List Entry) → take (length (take h es)) (es ++ more) ≡ take h es
front_same h es more =
    let le : length (take h es) ≤ length es = omega (arith, length-take h es) in
    take-append-le (length (take h es)) es more le ∙ ap (λ n. take n es) (length-take h es) ∙ take_min h es

-- first the one, then the other
pub step_trans : (vars : ℕ) (clauses : List (List ℤ)) (a b c : List (List Watch)) (pa pb pc : List Pair) (ea eb ec : List Entry)
    (lit : ℤ) (place : ℕ)
    → IsStep vars clauses a b pa pb ea eb lit 0 → IsStep vars clauses b c pb pc eb ec lit place
    → IsStep vars clauses a c pa pc ea ec lit 0
step_trans vars clauses a b c pa pb pc ea eb ec lit place s t = record {
  forced = t.forced;
  extends = Extends_trans ea eb ec s.extends t.extends;
  laid = t.laid;
  guarded = λ head k.
      let same : take (length (take head ea)) eb ≡ take head ea = ap (take (length (take head ea))) s.extends.split
      ∙ front_same head ea s.extends.added in
      subst (λ (seen : List Entry). AreGuarded clauses c pc seen ec) same
      (t.guarded (length (take head ea)) (subst (λ (seen : List Entry). AreGuarded clauses b pb seen eb) (sym same) (s.guarded head k)));
  passed = λ count le k i w lt. absurd (omega arith);
}

-- one more clause of a list is looked at
pub passed_more : (clauses : List (List ℤ)) (lists : List (List Watch)) (pairs : List Pair) (es : List Entry) (lit : ℤ) (place : ℕ)
    → ArePassed clauses lists pairs es lit place
    → ((w : Watch) → slice_get (list_at lists (code_of lit)) place ≡ Some w → IsPassed clauses pairs es lit w)
    → ArePassed clauses lists pairs es lit (place + 1)
passed_more clauses lists pairs es lit place k own i w lt there = ⊎_elim
    (λ (below : i < place). k i w below there)
    (λ (above : place ≤ i). let at : i ≡ place = omega arith in own w (ap (slice_get (list_at lists (code_of lit))) (sym at) ∙ there))
    (cases_lt i place)

-- a literal that is false stays so
pub value_extends : (z : ℤ) (b : Bool) (old new : List Entry) → Extends old new → value_of z old ≡ Some b → value_of z new ≡ Some b
value_extends z b old new x h = ap (value_of z) x.split ∙ value_append z old x.added b h

-- the entries seen are the same after more entries
pub take_extends : (h : ℕ) (old new : List Entry) → Extends old new → h ≤ length old → take h new ≡ take h old
take_extends h old new x le = ap (take h) x.split ∙ take-append-le h old x.added le

-- an entry stays in its place after more entries
pub get_extends : (old new : List Entry) (h : ℕ) (e : Entry) → Extends old new → slice_get old h ≡ Some e → slice_get new h ≡ Some e
get_extends old new h e x there =
    let lt : h < length old = slice_get_within old h e there in
    let within : h < length (old ++ x.added) = omega (arith, length-append old x.added) in
    ap (λ xs. slice_get xs h) x.split ∙ slice_get-get_or (old ++ x.added) h e within
    ∙ ap Some (get_or_append_left old x.added e h lt ∙ get_or_from_slice_get old h e e there)
