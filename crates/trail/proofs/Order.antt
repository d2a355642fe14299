-- Entries that each follow those before them: one more at the end, and one less.

use Rattle.std.proofs.Common.{◌≡◌, ℕ, ◌+◌, ◌<◌, ◌≤◌, List, [], ◌∷◌, ◌++◌, length, take, get_or, None, refl, subst, ⊎_elim, arith}
use Rattle.std.proofs.lemmas.Bool.{cases_lt}
use Rattle.std.proofs.lemmas.List.{length_push, take-append-le, take_at, get_or_append_left, get_or_push}
use Rattle.std.proofs.lemmas.Option.{slice_get-get_or, slice_get_within, get_or_from_slice_get}
use Rattle.clause_base.specs.Lit.{var_of}
use Rattle.clause_base.specs.declared.entry.Entry.{Entry}
use Rattle.trail.specs.Assignment.{value_of, step_of, level_of, Follows, IsTrail}
use Rattle.trail.proofs.Signs.{sign-unassigned}

-- the entry at a place, read with a default
pub IsTrail-at : (vars : ℕ) (es : List Entry) → IsTrail vars es → (i : ℕ) (d : Entry) → i < length es
    → Follows vars (take i es) (get_or es i d)
IsTrail-at vars es t i d lt = t i (get_or es i d) (slice_get-get_or es i d lt)

-- and back
IsTrail-from_at : (vars : ℕ) (es : List Entry) → ((i : ℕ) (d : Entry) → i < length es → Follows vars (take i es) (get_or es i d))
    → IsTrail vars es
IsTrail-from_at vars es t i e there =
    let lt : i < length es = slice_get_within es i e there in
    subst (Follows vars (take i es)) (get_or_from_slice_get es i e e there) (t i e lt)

-- an entry of an unassigned literal, at the level of its kind, may stand at the end
pub Follows-unassigned : (vars : ℕ) (es : List Entry) (e : Entry) → 0 < var_of e.lit → var_of e.lit ≤ vars → value_of e.lit es ≡ None
    → e.level ≡ level_of es + step_of e → Follows vars es e
Follows-unassigned vars es e above in_range unassigned level =
    record { above = above; in_range = in_range; fresh = sign-unassigned e.lit es unassigned; level = level }

-- one more entry
pub IsTrail-push : (vars : ℕ) (es : List Entry) (e : Entry) → IsTrail vars es → Follows vars es e → IsTrail vars (es ++ e ∷ [])
IsTrail-push vars es e t f = IsTrail-from_at vars (es ++ e ∷ []) at
  where
    at : (i : ℕ) (d : Entry) → i < length (es ++ e ∷ []) → Follows vars (take i (es ++ e ∷ [])) (get_or (es ++ e ∷ []) i d)
    at i d h =
        ⊎_elim
        (λ (lt : i < length es). let le : i ≤ length es = omega arith in
        rw (take-append-le, get_or_append_left) (IsTrail-at vars es t i d lt))
        (λ (ge : length es ≤ i). let last : length es ≡ i = omega (arith, length_push es e) in
        rw (take_at es (e ∷ []) i last, get_or_push es e d i last) f)
        (cases_lt i (length es))

-- the last entry follows those before it
pub IsTrail-last : (vars : ℕ) (es : List Entry) (e : Entry) → IsTrail vars (es ++ e ∷ []) → Follows vars es e
IsTrail-last vars es e t =
    let within : length es < length (es ++ e ∷ []) = omega (arith, length_push es e) in
    let at_last : Follows vars (take (length es) (es ++ e ∷ [])) (get_or (es ++ e ∷ []) (length es) e) =
    IsTrail-at vars (es ++ e ∷ []) t (length es) e within in
    rw (take_at es (e ∷ []) (length es) refl, get_or_push es e e (length es) refl) at at_last

-- the entries before the last
pub IsTrail-front : (vars : ℕ) (es : List Entry) (e : Entry) → IsTrail vars (es ++ e ∷ []) → IsTrail vars es
IsTrail-front vars es e t = IsTrail-from_at vars es front
  where
    front : (i : ℕ) (d : Entry) → i < length es → Follows vars (take i es) (get_or es i d)
    front i d lt =
        let within : i < length (es ++ e ∷ []) = omega (arith, length_push es e) in
        let le : i ≤ length es = omega arith in
        let there : Follows vars (take i (es ++ e ∷ [])) (get_or (es ++ e ∷ []) i d) = IsTrail-at vars (es ++ e ∷ []) t i d within in
        rw (take-append-le, get_or_append_left) at there
