-- Entries that are taken back from the end, down to a level.

use Rattle.std.proofs.Common.{◌≡◌, ℕ, suc, ◌+◌, ◌<◌, ◌≤◌, Bool, true, false, cond, List, [], ◌∷◌, ◌++◌, length, take, get_or, Some, refl, sym, ap, ◌∙◌, arith}
use Rattle.std.proofs.lemmas.Bool.Decides.{nat_tests}
use Rattle.std.proofs.lemmas.List.{append-nil, take-take, take_all, length_push, take_at, get_or_push}
use Rattle.std.proofs.lemmas.List.Elements.{filter-append}
use Rattle.std.proofs.lemmas.Option.{slice_get-get_or}
use Rattle.std.specs.Prelude.{◌-◌, nat_le, nat_lt, filter, slice_get}
use Rattle.std.specs.Option.{option_map_or}
use Rattle.clause_base.specs.declared.entry.Entry.{Entry}
use Rattle.trail.specs.Assignment.{step_of, level_of, ends_above_test, Follows, IsTrail}
use Rattle.trail.proofs.Levels.{step-le, level-up_to, level-below}

-- where an entry of a level above another follows, the level before it is at least the other
pub level-pop : (vars : ℕ) (es : List Entry) (e : Entry) (level : ℕ) → Follows vars es e → level < e.level → level ≤ level_of es
level-pop vars es e level f lt = let own : e.level ≡ level_of es + step_of e = f.level in omega (arith, own, step-le e)

-- an entry that fails the test is filtered out from the end
pub filter-pop : (p : Entry → Bool) (es : List Entry) (e : Entry) → p e ≡ false → filter p (es ++ e ∷ []) ≡ filter p es
filter-pop p es e fails = filter-append p es (e ∷ []) ∙ ap (λ b. filter p es ++ cond b (e ∷ []) []) fails ∙ append-nil (filter p es)

-- the front of a front
pub take-pop : (es first : List Entry) (e : Entry) → es ++ e ∷ [] ≡ take (length (es ++ e ∷ [])) first → es ≡ take (length es) first
take-pop es first e h =
    let le : length es ≤ length (es ++ e ∷ []) = omega (arith, length_push es e) in
    sym (take_at es (e ∷ []) (length es) refl) ∙ ap (take (length es)) h ∙ take-take (length es) (length (es ++ e ∷ [])) first le

-- whether the last entry is above a level
pub ends-push : (level : ℕ) (es : List Entry) (e : Entry) → ends_above_test level (es ++ e ∷ []) ≡ nat_lt level e.level
ends-push level es e =
    let n : length (es ++ e ∷ []) - 1 ≡ length es = omega (arith, length_push es e) in
    let lt : length es < length (es ++ e ∷ []) = omega (arith, length_push es e) in
    let there : slice_get (es ++ e ∷ []) (length es) ≡ Some e = slice_get-get_or (es ++ e ∷ []) (length es) e lt
    ∙ ap Some (get_or_push es e e (length es) refl) in
    ap (λ o. option_map_or (λ x. nat_lt level x.level) o false) (ap (slice_get (es ++ e ∷ [])) n ∙ there)

-- where the last entry is not above a level, the whole is not
pub level-last : (vars : ℕ) (es : List Entry) (level : ℕ) → IsTrail vars es → ends_above_test level es ≡ false → level_of es ≤ level
level-last vars [] level t ends = omega arith
level-last vars (x ∷ xs) level t ends = by (x ∷ xs) x t ends (omega arith)
  where
    by : (es : List Entry) (d : Entry) → IsTrail vars es → ends_above_test level es ≡ false → 0 < length es → level_of es ≤ level
    by es d t ends some =
        let n = length es - 1 in
        let lt : n < length es = omega arith in
        let there : slice_get es n ≡ Some (get_or es n d) = slice_get-get_or es n d lt in
        let test : nat_lt level (get_or es n d).level ≡ false = ap (λ o. option_map_or (λ e. nat_lt level e.level) o false) (sym there)
        ∙ ends in
        let low : (get_or es n d).level ≤ level = grind (arith, nat_tests) in
        let whole : level_of (take (n + 1) es) ≡ level_of es = ap level_of (take_all (n + 1) es (omega arith)) in
        omega (arith, level-up_to vars es t n d lt, low, whole)

-- a list whose elements all pass is filtered whole
filter-whole : (p : Entry → Bool) (es : List Entry) → ((i : ℕ) (d : Entry) → i < length es → p (get_or es i d) ≡ true) → filter p es ≡ es
filter-whole p [] h = refl
filter-whole p (e ∷ es) h = ap (λ b. cond b (e ∷ filter p es) (filter p es)) (h 0 e (omega arith))
    ∙ ap (λ l. e ∷ l) (filter-whole p es (λ i d lt. h (suc i) d (omega arith)))

-- a trail of at most a level keeps all its entries of levels up to that one
pub filter-low : (vars : ℕ) (es : List Entry) (level : ℕ) → IsTrail vars es → level_of es ≤ level
    → filter (λ e. nat_le e.level level) es ≡ es
filter-low vars es level t low =
    filter-whole (λ e. nat_le e.level level) es (λ i d lt. passes (get_or es i d).level (level-below vars es t i d lt))
  where
    passes : (n : ℕ) → n ≤ level_of es → nat_le n level ≡ true
    passes n below = grind (arith, nat_tests)
