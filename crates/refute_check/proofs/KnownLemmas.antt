-- The clauses of a source as they become known.
use Rattle.std.proofs.Common.{◌≡◌, ◌≢◌, ℕ, zero, suc, ℤ, ◌+◌, ◌-◌, ◌<◌, ◌≤◌, List, [], ◌∷◌, ◌++◌, length, map, take, get_or, set, Option, Some, None, refl, sym, ap, subst, ◌∙◌, arith}
use Rattle.std.specs.Prelude.{slice_get, slice_index, All}
use Rattle.clause_base.proofs.ListLemmas.{All-append_left, All-append_right}
use Rattle.refute_check.specs.Hints.{look_on, clause_at, held_with, held_by, held_after, judged_last, judged}
use Rattle.refute_check.specs.Known.{or_nothing, kept_at}
use Rattle.refute_check.specs.declared.derivation.ClauseStatus.TheVariants.{False}
use Rattle.refute_check.proofs.DeriveLemmas.{front_last}

-- a clause that was asked for is the list's
pub asked_agrees : (asked : List (Option (List ℤ))) (list derived : List (List ℤ)) (n : ℕ) (c : List ℤ) → length asked ≡ length list →
    slice_get asked n ≡ Some (Some c) → slice_get list n ≡ Some c
    → get_or (map or_nothing asked ++ derived) n [] ≡ get_or (list ++ derived) n []
asked_agrees [] list derived n c size at there = cc
asked_agrees (a ∷ more) [] derived n c size at there = cc
asked_agrees (a ∷ more) (x ∷ xs) derived zero c size at there =
    let first : a ≡ Some c = cc in
    let second : x ≡ c = cc in
    ap or_nothing first ∙ sym second
asked_agrees (a ∷ more) (x ∷ xs) derived (suc n) c size at there = asked_agrees more xs derived n c (omega arith) at there

-- the clauses of derived lines stand behind either
pub derived_agrees : (asked : List (Option (List ℤ))) (list derived : List (List ℤ)) (n : ℕ) → length asked ≡ length list
    → length list ≤ n →
    get_or (map or_nothing asked ++ derived) n [] ≡ get_or (list ++ derived) n []
derived_agrees [] [] derived n size le = refl
derived_agrees [] (x ∷ xs) derived n size le = absurd (omega arith)
derived_agrees (a ∷ more) [] derived n size le = absurd (omega arith)
derived_agrees (a ∷ more) (x ∷ xs) derived zero size le = absurd (omega arith)
derived_agrees (a ∷ more) (x ∷ xs) derived (suc n) size le = derived_agrees more xs derived n (omega arith) (omega arith)

-- one clause more is asked for: the others stay as they were
pub set_other : (asked : List (Option (List ℤ))) (derived : List (List ℤ)) (m n : ℕ) (c : Option (List ℤ)) → n ≢ m →
    get_or (map or_nothing (set asked m c) ++ derived) n [] ≡ get_or (map or_nothing asked ++ derived) n []
set_other [] derived m n c other = refl
set_other (a ∷ more) derived zero zero c other = absurd (other refl)
set_other (a ∷ more) derived zero (suc n) c other = refl
set_other (a ∷ more) derived (suc m) zero c other = refl
set_other (a ∷ more) derived (suc m) (suc n) c other = set_other more derived m n c (λ e. other (ap suc e))

pub set_there : (asked : List (Option (List ℤ))) (m : ℕ) (c : Option (List ℤ)) → m < length asked → slice_get (set asked m c) m ≡ Some c
set_there [] m c lt = absurd (omega arith)
set_there (a ∷ more) zero c lt = refl
set_there (a ∷ more) (suc m) c lt = set_there more m c (omega arith)

-- where nothing is known, nothing else is told
pub told_none : (asked : List (Option (List ℤ))) (list : List (List ℤ)) → All (λ c. c ≡ None) asked →
    (n : ℕ) (d : List ℤ) → slice_get asked n ≡ Some (Some d) → slice_get list n ≡ Some d
told_none [] list none n d at = cc
told_none (a ∷ more) list none zero d at = let first : a ≡ None = none 0 a (omega arith) in cc
told_none (a ∷ more) [] none (suc n) d at = let rest = told_none more [] (λ k e lt. none (suc k) e (omega arith)) n d at in cc
told_none (a ∷ more) (x ∷ xs) none (suc n) d at = told_none more xs (λ k e lt. none (suc k) e (omega arith)) n d at

-- hints are judged alike where they name the same clauses
held_same : (a b : List (List ℤ)) (held : Option (List ℤ)) (hints : List ℕ) → All (λ h. clause_at a h ≡ clause_at b h) hints
    → held_after a held hints ≡ held_after b held hints
unfolding held_after
held_same a b None hints same = refl
held_same a b (Some held) [] same = refl
held_same a b (Some held) (h ∷ hs) same =
    let first : held_by a held h ≡ held_by b held h = ap (λ c. held_with held (look_on held c False)) (same 0 h (omega arith)) in
    ap (λ (o : Option (List ℤ)). held_after a o hs) first ∙ held_same a b (held_by b held h) hs (λ k d lt. same (suc k) d (omega arith))

last_same : (a b : List (List ℤ)) (held : Option (List ℤ)) (h : ℕ) → clause_at a h ≡ clause_at b h
    → judged_last a held h ≡ judged_last b held h
last_same a b None h same = refl
last_same a b (Some held) h same = ap (λ (c : List ℤ). judged_last (c ∷ []) (Some held) 1) same

pub judged_same : (a b : List (List ℤ)) (held : List ℤ) (hints : List ℕ) → 0 < length hints
    → All (λ h. clause_at a h ≡ clause_at b h) hints → judged a held hints ≡ judged b held hints
judged_same a b held hints some same =
    let front = take (length hints - 1) hints in
    let last = slice_index hints (length hints - 1) in
    let split : All (λ h. clause_at a h ≡ clause_at b h) (front ++ last ∷ []) =
    subst (λ (l : List ℕ). All (λ h. clause_at a h ≡ clause_at b h) l) (front_last hints some) same in
    let fronts = All-append_left (λ h. clause_at a h ≡ clause_at b h) front (last ∷ []) split in
    let lasts = All-append_right (λ h. clause_at a h ≡ clause_at b h) front (last ∷ []) split in
    ap (λ (o : Option (List ℤ)). judged_last a o last) (held_same a b (Some held) front fronts)
    ∙ last_same a b (held_after b (Some held) front) last (lasts 0 last (omega arith))

-- the table and the clauses that were asked for, one more
pub kept_push : (asked : List (List ℤ)) (c : List ℤ) (place : ℕ) → place ≤ length asked
    → kept_at (asked ++ c ∷ []) place ≡ kept_at asked place
kept_push asked c zero le = refl
kept_push asked c (suc place) le = front asked place (omega arith)
  where
    front : (xs : List (List ℤ)) (k : ℕ) → k < length xs → slice_get (xs ++ c ∷ []) k ≡ slice_get xs k
    front [] k lt = absurd (omega arith)
    front (x ∷ xs) zero lt = refl
    front (x ∷ xs) (suc k) lt = front xs k (omega arith)

last_there : (asked : List (List ℤ)) (c : List ℤ) → slice_get (asked ++ c ∷ []) (length asked) ≡ Some c
last_there [] c = refl
last_there (x ∷ xs) c = last_there xs c

pub kept_last : (asked : List (List ℤ)) (c : List ℤ) (place : ℕ) → place ≡ length asked + 1 → kept_at (asked ++ c ∷ []) place ≡ Some c
kept_last asked c zero e = absurd (omega arith)
kept_last asked c (suc place) e =
    let is : place ≡ length asked = omega arith in
    ap (slice_get (asked ++ c ∷ [])) is ∙ last_there asked c

pub table_push : (places : List ℕ) (asked : List (List ℤ)) (c : List ℤ) (m place : ℕ) → All (λ p. p ≤ length asked) places
    → place ≡ length asked + 1 →
    map (kept_at (asked ++ c ∷ [])) (set places m place) ≡ set (map (kept_at asked) places) m (Some c)
table_push [] asked c m place within is = refl
table_push (p ∷ ps) asked c zero place within is =
    ap (λ (o : Option (List ℤ)). o ∷ map (kept_at (asked ++ c ∷ [])) ps) (kept_last asked c place is)
    ∙ ap (λ (os : List (Option (List ℤ))). Some c ∷ os) (same ps (λ k d lt. within (suc k) d (omega arith)))
  where
    same : (qs : List ℕ) → All (λ q. q ≤ length asked) qs → map (kept_at (asked ++ c ∷ [])) qs ≡ map (kept_at asked) qs
    same [] all = refl
    same (q ∷ qs) all =
        ap (λ (o : Option (List ℤ)). o ∷ map (kept_at (asked ++ c ∷ [])) qs) (kept_push asked c q (all 0 q (omega arith)))
        ∙ ap (λ (os : List (Option (List ℤ))). kept_at asked q ∷ os) (same qs (λ k d lt. all (suc k) d (omega arith)))
table_push (p ∷ ps) asked c (suc m) place within is =
    ap (λ (o : Option (List ℤ)). o ∷ map (kept_at (asked ++ c ∷ [])) (set ps m place)) (kept_push asked c p (within 0 p (omega arith)))
    ∙ ap (λ (os : List (Option (List ℤ))). kept_at asked p ∷ os)
    (table_push ps asked c m place (λ k d lt. within (suc k) d (omega arith)) is)

-- a clause in the table
pub table_front : (places : List ℕ) (asked derived : List (List ℤ)) (k : ℕ) → k < length places →
    get_or (map or_nothing (map (kept_at asked) places) ++ derived) k [] ≡ or_nothing (kept_at asked (get_or places k 0))
table_front [] asked derived k lt = absurd (omega arith)
table_front (p ∷ ps) asked derived zero lt = refl
table_front (p ∷ ps) asked derived (suc k) lt = table_front ps asked derived k (omega arith)

-- a clause behind the table
pub table_back : (places : List ℕ) (asked derived : List (List ℤ)) (k : ℕ) → length places ≤ k →
    get_or (map or_nothing (map (kept_at asked) places) ++ derived) k [] ≡ get_or derived (k - length places) []
table_back [] asked derived k le = ap (λ (n : ℕ). get_or derived n []) (omega arith)
table_back (p ∷ ps) asked derived zero le = absurd (omega arith)
table_back (p ∷ ps) asked derived (suc k) le = table_back ps asked derived k (omega arith)
    ∙ ap (λ (n : ℕ). get_or derived n []) (omega arith)
