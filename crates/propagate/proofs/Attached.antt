-- A clause that had no watch comes to its watches.

use Rattle.std.proofs.Common.{◌≡◌, ◌≢◌, ℕ, ℤ, ◌+◌, ◌-◌, ◌<◌, ◌≤◌, true, false, not, List, [], ◌∷◌, ◌++◌, length, take, get_or, set, Some, None, refl, sym, ap, subst, ◌∙◌, inl, inr, ⊎_elim, ◌⊎◌, arith}
use Rattle.std.specs.Prelude.{slice_get, nat_le}
use Rattle.std.specs.Bool.{if◌then◌else◌}
use Rattle.std.specs.Option.{option_map}
use Rattle.std.proofs.lemmas.Bool.{cases_lt, cases_order, leb-true}
use Rattle.std.proofs.lemmas.List.{get_or-take, get_or_at, length-take, length-append}
use Rattle.std.proofs.lemmas.Option.{slice_get-get_or, slice_get_within, get_or_from_slice_get, none-some, same_Some}
use Rattle.clause_base.specs.Lit.{var_of, is_positive}
use Rattle.clause_base.specs.Truth.{lits_of, IsSatisfied, IsUnit}
use Rattle.clause_base.specs.declared.entry.Entry.{Entry}
use Rattle.trail.specs.Assignment.{value_of, level_of, IsTrail, IsLevelled}
use Rattle.trail.proofs.Ends.{filter-low}
use Rattle.propagate.specs.Standing.{up_to, AreForced}
use Rattle.propagate.specs.Lists.{list_at}
use Rattle.propagate.specs.Attaching.{IsFalseAtPresent, KeepsWatched, KeepsTrue, KeepsGuarded}
use Rattle.propagate.specs.Watching.{code_of, IsIn, IsListed, IsEntry, IsGuarded, IsForGood, IsWatched, AreLaid, AreGuarded}
use Rattle.propagate.specs.declared.watch_lists.Watch.{Watch}
use Rattle.propagate.specs.declared.pairs.Pair.{Pair}
use Rattle.propagate.proofs.Conclusions.{code_listed, value_own}
use Rattle.propagate.proofs.Guarding.{are_guarded_lists, are_guarded_push, are_guarded_append, guarded_append, guarded_free}
use Rattle.propagate.proofs.Listed.{listed_push, listed_here, laid_push, laid_pair_push}
use Rattle.clause_base.proofs.LiteralLemmas.{var_neg}
use Rattle.propagate.proofs.Values.{sign_none}
use Rattle.propagate.proofs.Steps.{front_same}
use Rattle.propagate.specs.Propagation.{Extends}
use Rattle.propagate.proofs.Forcing.{AreForced_push}
use Rattle.propagate.proofs.Extending.{Extends_push, level_extends}

-- the clause past the last pair stands in the list of a literal
pub record IsPushed (vars : ℕ) (clauses : List (List ℤ)) (lists new : List (List Watch)) (pairs : List Pair) (z : ℤ) : Type 0 where
  pub laid : AreLaid vars clauses new pairs
  pub keeps : (n : ℕ) (y : ℤ) → IsListed lists n y → IsListed new n y
  pub listed : IsListed new (length pairs) z

pub pushed : (vars : ℕ) (clauses : List (List ℤ)) (lists new : List (List Watch)) (pairs : List Pair) (z other : ℤ) (code : ℕ) (w : Watch)
    → AreLaid vars clauses lists pairs → length pairs < length clauses → var_of z ≤ vars
    → ((c : List ℤ) → slice_get clauses (length pairs) ≡ Some c → IsIn c other) → w.index ≡ length pairs → w.blocker ≡ other
    → code ≡ code_of z
    → new ≡ set lists code (list_at lists code ++ w ∷ []) → IsPushed vars clauses lists new pairs z
pushed vars clauses lists new pairs z other code w laid few le within index_is blocker_is code_is new_is =
    let clause = get_or clauses (length pairs) [] in
    let there : slice_get clauses (length pairs) ≡ Some clause = slice_get-get_or clauses (length pairs) [] few in
    let entry : IsEntry clauses w =
    record {
      clause = clause;
      there = ap (slice_get clauses) index_is ∙ there;
      blocker_in = subst (λ (y : ℤ). IsIn clause y) (sym blocker_is) (within clause there);
    } in
    let lt : code_of z < length lists = code_listed vars lists z le laid.sized in
    let is : new ≡ set lists (code_of z) (list_at lists (code_of z) ++ w ∷ []) = new_is
    ∙ ap (λ k. set lists k (list_at lists k ++ w ∷ [])) code_is in
    record {
      laid =
          subst (λ (ls : List (List Watch)). AreLaid vars clauses ls pairs) (sym is)
          (laid_push vars clauses lists pairs (code_of z) w laid entry);
      keeps = λ n y k. subst (λ (ls : List (List Watch)). IsListed ls n y) (sym is) (listed_push lists (code_of z) w n y lt k);
      listed =
          subst (λ (ls : List (List Watch)). IsListed ls (length pairs) z) (sym is)
          (subst (λ (n : ℕ). IsListed (set lists (code_of z) (list_at lists (code_of z) ++ w ∷ [])) n z) index_is
          (listed_here lists z w lt));
    }

-- a pair for the clause past the last pair
pub paired_laid : (vars : ℕ) (clauses : List (List ℤ)) (lists : List (List Watch)) (pairs after : List Pair) (p : Pair)
    → AreLaid vars clauses lists pairs → length pairs < length clauses
    → ((c : List ℤ) → slice_get clauses (length pairs) ≡ Some c → IsIn c p.first × IsIn c p.second) → after ≡ pairs ++ p ∷ []
    → AreLaid vars clauses lists after
paired_laid vars clauses lists pairs after p laid few within is =
    let clause = get_or clauses (length pairs) [] in
    let there : slice_get clauses (length pairs) ≡ Some clause = slice_get-get_or clauses (length pairs) [] few in
    let two = within clause there in
    subst (λ (ps : List Pair). AreLaid vars clauses lists ps) (sym is)
    (laid_pair_push vars clauses lists pairs clause p laid there two.0 two.1)

-- both lists have it, and its pair is there
pub paired_watched : (vars : ℕ) (clauses : List (List ℤ)) (lists one two : List (List Watch)) (pairs after : List Pair) (p : Pair)
    → length pairs < length clauses → p.first ≢ p.second → IsPushed vars clauses lists one pairs p.first
    → IsPushed vars clauses one two pairs p.second → after ≡ pairs ++ p ∷ []
    → KeepsWatched clauses lists two pairs after p.first p.second
paired_watched vars clauses lists one two pairs after p few apart a b is seen es own k =
    let clause = get_or clauses (length pairs) [] in
    let there : slice_get clauses (length pairs) ≡ Some clause = slice_get-get_or clauses (length pairs) [] few in
    let guards = own clause there in
    let base : AreGuarded clauses two pairs seen es =
    are_guarded_lists clauses lists two pairs seen es (λ n y l. b.keeps n y (a.keeps n y l)) k in
    let watched : IsWatched two seen es (length pairs) clause p = record {
      apart = apart;
      first_listed = b.keeps (length pairs) p.first a.listed;
      second_listed = b.listed;
      first_guarded = guards.0;
      second_guarded = guards.1;
    } in
    subst (λ (ps : List Pair). AreGuarded clauses two ps seen es) (sym is)
    (are_guarded_push clauses two pairs seen es clause p there (inr watched) base)

-- it is true for good, and a pair stands for it
pub paired_true : (clauses : List (List ℤ)) (lists : List (List Watch)) (pairs after : List Pair) (p : Pair)
    → length pairs < length clauses → after ≡ pairs ++ p ∷ [] → KeepsTrue clauses lists pairs after
paired_true clauses lists pairs after p few is seen es own k =
    let clause = get_or clauses (length pairs) [] in
    let there : slice_get clauses (length pairs) ≡ Some clause = slice_get-get_or clauses (length pairs) [] few in
    subst (λ (ps : List Pair). AreGuarded clauses lists ps seen es) (sym is)
    (are_guarded_push clauses lists pairs seen es clause p there (inl (own clause there)) k)

-- at level 0 a true clause is true for good
pub good_at_zero : (vars : ℕ) (es : List Entry) (clause : List ℤ) → IsTrail vars es → level_of es ≡ 0 → IsSatisfied (lits_of es) clause
    → IsForGood es clause
good_at_zero vars es clause t zero_level s l =
    let le : level_of es ≤ l = omega (arith, zero_level) in
    subst (λ (xs : List Entry). IsSatisfied (lits_of xs) clause) (sym (filter-low vars es l t le)) s

-- a literal that an entry of the present level makes false is guarded where the clause is true
pub guarded_present : (vars : ℕ) (es later : List Entry) (head : ℕ) (clause : List ℤ) (z : ℤ) → IsLevelled es → IsTrail vars later
    → level_of later ≡ level_of es → IsFalseAtPresent es z → IsSatisfied (lits_of later) clause
    → IsGuarded (take head es) later clause z
guarded_present vars es later head clause z levelled t same f s l e = ⊎_elim
    (λ (below : l < level_of es). absurd (none-some false (sym (hidden below) ∙ e)))
    (λ (above : level_of es ≤ l). let le : level_of later ≤ l = omega arith in
    subst (λ (xs : List Entry). IsSatisfied (lits_of xs) clause) (sym (filter-low vars later l t le)) s)
    (cases_lt l (level_of es))
  where
    var_is : var_of z ≡ var_of f.entry.lit
    var_is = ap var_of f.negates ∙ var_neg f.entry.lit

    within : f.place < length es
    within = slice_get_within es f.place f.entry f.there

    at : (d : Entry) → get_or es f.place d ≡ f.entry
    at d = get_or_from_slice_get es f.place f.entry d f.there

    hidden : l < level_of es → value_of z (up_to l (take head es)) ≡ None
    hidden below =
        ap (option_map (λ b. if is_positive z then b else not b)) (sign_none (λ x. nat_le x.level l) (var_of z) (take head es) others)
      where
        others : (i : ℕ) (d : Entry) → i < length (take head es) → nat_le (get_or (take head es) i d).level l ≡ true
            → var_of (get_or (take head es) i d).lit ≢ var_of z
        others i d lt passes is =
            let sized : length (take head es) ≤ head = omega (arith, length-take head es) in
            let fits : length (take head es) ≤ length es = omega (arith, length-take head es) in
            let before : i < head = omega arith in
            let inside : i < length es = omega arith in
            let same_entry : get_or (take head es) i d ≡ get_or es i d = get_or-take head es i d before in
            let low : (get_or es i d).level ≤ l =
            leb-true (get_or es i d).level l (ap (λ (x : Entry). nat_le x.level l) (sym same_entry) ∙ passes) in
            let same_var : var_of (get_or es i d).lit ≡ var_of f.entry.lit = ap (λ (x : Entry). var_of x.lit) (sym same_entry) ∙ is
            ∙ var_is in
            let present : f.entry.level ≡ level_of es = f.present in
            ⊎_elim
            (λ (here : i ≡ f.place). let own : (get_or es i d).level ≡ f.entry.level =
            ap (λ (x : Entry). x.level) (ap (λ k. get_or es k d) here ∙ at d) in omega arith)
            (λ (away : (i < f.place) ⊎ (f.place < i)). ⊎_elim
            (λ (first : i < f.place). levelled.apart i f.place d first within (same_var ∙ ap (λ (x : Entry). var_of x.lit) (sym (at d))))
            (λ (last : f.place < i). levelled.apart f.place i d last inside (ap (λ (x : Entry). var_of x.lit) (at d) ∙ sym same_var))
            away)
            (cases_order i f.place)

-- the unassigned literal of a unit clause is in it
pub unit_in : (held : List ℤ) (clause : List ℤ) (z : ℤ) → IsUnit held clause z → IsIn clause z
unit_in held clause z u =
    let lt : length u.front < length (u.front ++ z ∷ u.back) = omega (arith, length-append u.front (z ∷ u.back)) in
    record {
      place = length u.front;
      there = ap (λ c. slice_get c (length u.front)) u.split
          ∙ slice_get-get_or (u.front ++ z ∷ u.back) (length u.front) z lt ∙ ap Some (get_or_at u.front z u.back z (length u.front) refl);
    }

-- a unit clause forces its literal
pub forced_unit : (clauses : List (List ℤ)) (es later : List Entry) (e : Entry) (clause : List ℤ) (n : ℕ) → AreForced clauses es
    → slice_get clauses n ≡ Some clause → e.reason ≡ n + 1 → IsUnit (lits_of es) clause e.lit → later ≡ es ++ e ∷ []
    → AreForced clauses later
forced_unit clauses es later e clause n forced there reason unit is =
    let above : 0 < e.reason = omega (arith, reason) in
    let back : e.reason - 1 ≡ n = omega (arith, reason) in
    subst (λ (xs : List Entry). AreForced clauses xs) (sym is)
    (AreForced_push clauses es e forced
    (λ implied. record {
      clause = clause;
      numbered = record { above = above; there = ap (slice_get clauses) back ∙ there };
      unit = unit;
    }))

-- the literal is true afterwards
pub unit_satisfied : (es later : List Entry) (e : Entry) (clause : List ℤ) → IsUnit (lits_of es) clause e.lit → later ≡ es ++ e ∷ []
    → IsSatisfied (lits_of later) clause
unit_satisfied es later e clause unit is =
    let here = unit_in (lits_of es) clause e.lit unit in
    subst (λ (xs : List Entry). IsSatisfied (lits_of xs) clause) (sym is)
    (record { place = here.place; lit = e.lit; there = here.there; holds = value_own es e unit.unassigned })

-- all stays guarded where the clause is true for good
pub keeps_good : (clauses : List (List ℤ)) (lists new : List (List Watch)) (pairs after : List Pair) (es later more : List Entry)
    (clause : List ℤ)
    → KeepsTrue clauses lists pairs after → new ≡ lists → later ≡ es ++ more → slice_get clauses (length pairs) ≡ Some clause
    → IsForGood later clause → KeepsGuarded clauses lists new pairs after es later
keeps_good clauses lists new pairs after es later more clause keeps same is there good head k =
    let grown : AreGuarded clauses lists pairs (take head es) later =
    subst (λ (xs : List Entry). AreGuarded clauses lists pairs (take head es) xs) (sym is)
    (are_guarded_append clauses lists pairs (take head es) es more k) in
    let own : (c : List ℤ) → slice_get clauses (length pairs) ≡ Some c
    → IsForGood later c = λ c at. subst (λ (x : List ℤ). IsForGood later x) (same_Some clause c (sym there ∙ at)) good in
    subst (λ (ls : List (List Watch)). AreGuarded clauses ls after (take head es) later) (sym same) (keeps (take head es) later own grown)

-- and where two literals of it are guarded
pub keeps_watched : (clauses : List (List ℤ)) (lists new : List (List Watch)) (pairs after : List Pair) (es later more : List Entry)
    (clause : List ℤ) (first second : ℤ)
    → KeepsWatched clauses lists new pairs after first second → later ≡ es ++ more → slice_get clauses (length pairs) ≡ Some clause
    → ((head : ℕ) → IsGuarded (take head es) later clause first × IsGuarded (take head es) later clause second)
    → KeepsGuarded clauses lists new pairs after es later
keeps_watched clauses lists new pairs after es later more clause first second keeps is there guards head k =
    let grown : AreGuarded clauses lists pairs (take head es) later =
    subst (λ (xs : List Entry). AreGuarded clauses lists pairs (take head es) xs) (sym is)
    (are_guarded_append clauses lists pairs (take head es) es more k) in
    keeps (take head es) later (λ c at. subst
    (λ (x : List ℤ). IsGuarded (take head es) later x first × IsGuarded (take head es) later x second)
    (same_Some clause c (sym there ∙ at)) (guards head)) grown

-- the guards of a literal that was implied, and of one that the present level makes false
pub guards_beside : (vars : ℕ) (es later : List Entry) (e : Entry) (clause : List ℤ) (other : ℤ) → IsLevelled es → IsTrail vars later
    → 0 < e.reason → e.level ≡ level_of es → IsUnit (lits_of es) clause e.lit → later ≡ es ++ e ∷ [] → IsFalseAtPresent es other
    → (head : ℕ) → IsGuarded (take head es) later clause e.lit × IsGuarded (take head es) later clause other
guards_beside vars es later e clause other levelled t above present unit is f head =
    let same : level_of later ≡ level_of es = ap level_of is ∙ level_extends es (es ++ e ∷ []) (Extends_push es e above present) in (
      subst (λ (xs : List Entry). IsGuarded (take head es) xs clause e.lit) (sym is)
          (guarded_append (take head es) es (e ∷ []) clause e.lit (guarded_free es head clause e.lit unit.unassigned)),
      guarded_present vars es later head clause other levelled t same f (unit_satisfied es later e clause unit is),
    )

-- first the one, then the other
pub keeps_trans : (clauses : List (List ℤ)) (a b c : List (List Watch)) (pa pb pc : List Pair) (ea eb ec : List Entry) → Extends ea eb
    → KeepsGuarded clauses a b pa pb ea eb → KeepsGuarded clauses b c pb pc eb ec → KeepsGuarded clauses a c pa pc ea ec
keeps_trans clauses a b c pa pb pc ea eb ec x s t head k =
    let same : take (length (take head ea)) eb ≡ take head ea = ap (take (length (take head ea))) x.split ∙ front_same head ea x.added in
    subst (λ (seen : List Entry). AreGuarded clauses c pc seen ec) same
    (t (length (take head ea)) (subst (λ (seen : List Entry). AreGuarded clauses b pb seen eb) (sym same) (s head k)))
