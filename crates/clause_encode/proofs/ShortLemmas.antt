-- A clause has fewer than 2^32 literals: each variable comes at most twice, once with each sign.
use Rattle.std.proofs.Common.{◌≡◌, ◌≢◌, ℕ, suc, ℤ, pos, negsuc, ◌+◌, ◌*◌, ◌<◌, ◌≤◌, ◌^◌, ◌==◌, Bool, true, false, List, [], ◌∷◌, length, map, get_or, Some, refl, ap, subst, arith}
use Rattle.std.specs.Prelude.{◌||◌, All, AllPairs, slice_get}
use Rattle.std.specs.List.{list_any, IsDistinct}
use Rattle.std.proofs.lemmas.Bool.Decides.{nat_tests}
use Rattle.std.proofs.lemmas.List.{length-map}
use Rattle.std.proofs.lemmas.List.Elements.{All-map, All-tail, recursion_from_All}
use Rattle.std.proofs.lemmas.Map.Steps.{length-le_from_distinct_below}
use Rattle.std.proofs.lemmas.Option.{slice_get_within, get_or_from_slice_get}
use Rattle.clause_base.specs.Lit.{var_of}
use Rattle.clause_base.specs.Clauses.{IsClause}

-- a number for each literal: twice its variable, and one more with a minus sign
code : ℤ → ℕ
code (pos n) = 2 * n
code (negsuc n) = 2 * suc n + 1

-- literals with one number are the same
code_tells : (a b : ℤ) → code a ≡ code b → a ≡ b
unfolding code
code_tells (pos n) (pos m) e = ap pos (omega arith)
code_tells (pos n) (negsuc m) e = absurd (omega arith)
code_tells (negsuc n) (pos m) e = absurd (omega arith)
code_tells (negsuc n) (negsuc m) e = ap negsuc (omega arith)

-- the number of a literal lies by its variable
code_within : (z : ℤ) (vars : ℕ) → 0 < var_of z → var_of z ≤ vars → (1 < code z) × (code z < 2 * vars + 2)
unfolding code
code_within (pos n) vars above le = (omega arith, omega arith)
code_within (negsuc n) vars above le = (omega arith, omega arith)

pairs_tail : {A : Type 0} (R : A → A → Type 0) (x : A) (xs : List A) → AllPairs R (x ∷ xs) → AllPairs R xs
pairs_tail R x xs h = λ i j d lt within. h (suc i) (suc j) d (omega arith) (omega arith)

-- the numbers of different literals differ
distinct_codes : (zs : List ℤ) → AllPairs (λ a b. a ≢ b) zs → IsDistinct (λ a b. a == b) (map code zs)
unfolding IsDistinct
distinct_codes [] apart = tt
distinct_codes (z ∷ zs) apart = (
  recursion_from_All (λ v. (code z == v) ≡ false) (map code zs) (All-map (λ v. (code z == v) ≡ false) code zs
      (λ k d lt. let other : code z ≢ code (get_or zs k d) =
      (λ e. apart 0 (suc k) d (omega arith) (omega arith) (code_tells z (get_or zs k d) e)) in grind (arith, nat_tests))),
  distinct_codes zs (pairs_tail (λ a b. a ≢ b) z zs apart),
)

-- a number that is found among those of literals is below the bound
within_codes : (zs : List ℤ) (vars q : ℕ) → All (λ z. 0 < var_of z) zs → All (λ z. var_of z ≤ vars) zs
    → list_any (λ v. q == v) (map code zs) ≡ true → q < 2 * vars + 2
within_codes [] vars q above all h = cc
within_codes (z ∷ zs) vars q above all h =
    by (q == code z) refl h
    (λ k. within_codes zs vars q (All-tail (λ z. 0 < var_of z) z zs above) (All-tail (λ z. var_of z ≤ vars) z zs all) k)
  where
    by : (b : Bool) → (q == code z) ≡ b → (b || list_any (λ v. q == v) (map code zs)) ≡ true
        → (list_any (λ v. q == v) (map code zs) ≡ true → q < 2 * vars + 2) → q < 2 * vars + 2
    by true is k further = let le = (code_within z vars (above 0 z (omega arith)) (all 0 z (omega arith))).1 in grind (arith, nat_tests)
    by false is k further = further k

-- a clause is short where there are fewer than 2^31 variables
pub clause-short : (vars : ℕ) (clause : List ℤ) → vars < 2 ^ 31 → IsClause vars clause → length clause < 2 ^ 32
unfolding IsDistinct
clause-short vars clause few is =
    let all = 0 ∷ map code clause in
    let distinct : IsDistinct (λ a b. a == b) all = (
      recursion_from_All (λ v. (0 == v) ≡ false) (map code clause) (All-map (λ v. (0 == v) ≡ false) code clause
          (λ k d lt. let some = (code_within (get_or clause k d) vars (is.above k d lt) (is.in_range k d lt)).0 in
          grind (arith, nat_tests))),
      distinct_codes clause is.once,
    ) in
    let le = length-le_from_distinct_below all (2 * vars + 2) distinct below in
    omega (arith, le, length-map clause code)
  where
    below : (q : ℕ) → list_any (λ v. q == v) (0 ∷ map code clause) ≡ true → q < 2 * vars + 2
    below q e = by (q == 0) refl e
      where
        by : (b : Bool) → (q == 0) ≡ b → (b || list_any (λ v. q == v) (map code clause)) ≡ true → q < 2 * vars + 2
        by true is_zero k = grind (arith, nat_tests)
        by false is_zero k = within_codes clause vars q is.above is.in_range k

-- valid clauses over fewer than 2^31 variables may be given
pub all-short : (vars : ℕ) (clauses : List (List ℤ)) → vars < 2 ^ 31 → All (IsClause vars) clauses
    → All (λ clause. length clause < 2 ^ 32) clauses
all-short vars clauses few all = λ k d lt. clause-short vars (get_or clauses k d) few (all k d lt)

-- what holds of all holds of the one at a place
pub All-at : {A : Type 0} (P : A → Type 0) (xs : List A) (k : ℕ) (x : A) → All P xs → slice_get xs k ≡ Some x → P x
All-at P xs k x all there = subst P (get_or_from_slice_get xs k x x there) (all k x (slice_get_within xs k x there))
