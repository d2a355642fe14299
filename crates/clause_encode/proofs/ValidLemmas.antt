-- Clauses that hold no literal twice, and only some variables, by their shapes.
use Rattle.std.proofs.Common.{◌≡◌, ◌≢◌, ℕ, ℤ, zero, suc, ◌+◌, ◌-◌, ◌<◌, ◌≤◌, List, [], ◌∷◌, ◌++◌, Option, Some, None, refl, ap, ◌∙◌, arith}
use Rattle.std.specs.Prelude.{slice_get}
use Rattle.std.specs.List.{All}
use Rattle.std.specs.Option.{option_map_or}
use Rattle.std.proofs.lemmas.List.Elements.{All-nil, All-cons, All-append}
use Rattle.std.proofs.lemmas.List.Kept.{AllPairs-cons}
use Rattle.clause_base.specs.Lit.{var_of}
use Rattle.clause_base.specs.Clauses.{IsClause}
use Rattle.placement_clauses.specs.Upto.{upto, at_place}
use Rattle.placement_clauses.specs.Number.{plus, minus}
use Rattle.placement_clauses.specs.Shape.{one, not_both, not_with_later, no_two, follows, same, follows_where, same_where, not_both_unless, apart_unless}
use Rattle.placement_clauses.proofs.UptoLemmas.{All-upto}

-- ---- clauses of one, two and three literals

-- a literal of a variable that there is
pub record IsIn (vars : ℕ) (z : ℤ) : Type 0 where
  pub above : 0 < var_of z
  pub below : var_of z ≤ vars

pub in_plus : (vars v : ℕ) → 0 < v → v ≤ vars → IsIn vars (plus v)
in_plus vars v above below = record { above = above; below = below }

pub in_minus : (vars v : ℕ) → 0 < v → v ≤ vars → IsIn vars (minus v)
in_minus vars zero above below = absurd (omega arith)
in_minus vars (suc v) above below = record { above = above; below = below }

-- a variable and another one, or its negation, are two literals
pub minus_apart : (v w : ℕ) → v ≢ w → minus v ≢ minus w
minus_apart zero zero ne e = ne refl
minus_apart zero (suc w) ne e = cc
minus_apart (suc v) zero ne e = cc
minus_apart (suc v) (suc w) ne e = ne (let same : v ≡ w = cc in ap suc same)

pub minus_plus : (v w : ℕ) → 0 < v → minus v ≢ plus w
minus_plus zero w above e = absurd (omega arith)
minus_plus (suc v) w above e = cc

pub plus_minus : (v w : ℕ) → 0 < w → plus v ≢ minus w
plus_minus v zero above e = absurd (omega arith)
plus_minus v (suc w) above e = cc

pub valid_one : (vars : ℕ) (a : ℤ) → IsIn vars a → IsClause vars (a ∷ [])
valid_one vars a p = record {
  above = All-cons (λ z. 0 < var_of z) a [] p.above (All-nil (λ z. 0 < var_of z));
  in_range = All-cons (λ z. var_of z ≤ vars) a [] p.below (All-nil (λ z. var_of z ≤ vars));
  once = λ i j d lt within e. absurd (omega arith);
}

-- a literal before a clause that has none like it
valid_more : (vars : ℕ) (a : ℤ) (c : List ℤ) → IsIn vars a → All (λ z. a ≢ z) c → IsClause vars c → IsClause vars (a ∷ c)
valid_more vars a c p apart h = record {
  above = All-cons (λ z. 0 < var_of z) a c p.above h.above;
  in_range = All-cons (λ z. var_of z ≤ vars) a c p.below h.in_range;
  once = AllPairs-cons (λ x y. x ≢ y) a c apart h.once;
}

pub valid_two : (vars : ℕ) (a b : ℤ) → IsIn vars a → IsIn vars b → a ≢ b → IsClause vars (a ∷ b ∷ [])
valid_two vars a b p q apart = valid_more vars a (b ∷ []) p (All-cons (λ z. a ≢ z) b [] apart (All-nil (λ z. a ≢ z))) (valid_one vars b q)

pub valid_three : (vars : ℕ) (a b c : ℤ) → IsIn vars a → IsIn vars b → IsIn vars c → a ≢ b → a ≢ c → b ≢ c
    → IsClause vars (a ∷ b ∷ c ∷ [])
valid_three vars a b c p q r ab ac bc =
    valid_more vars a (b ∷ c ∷ []) p (All-cons (λ z. a ≢ z) b (c ∷ []) ab (All-cons (λ z. a ≢ z) c [] ac (All-nil (λ z. a ≢ z))))
    (valid_two vars b c q r bc)

-- ---- lists of clauses

pub are_one : (vars : ℕ) (c : List ℤ) → IsClause vars c → All (IsClause vars) (one c)
are_one vars c h = All-cons (IsClause vars) c [] h (All-nil (IsClause vars))

pub are_both : (vars : ℕ) (cs ds : List (List ℤ)) → All (IsClause vars) cs → All (IsClause vars) ds → All (IsClause vars) (cs ++ ds)
are_both vars cs ds h k = All-append (IsClause vars) cs ds h k

pub are_upto : (vars n : ℕ) (f : ℕ → List (List ℤ)) → ((k : ℕ) → k < n → All (IsClause vars) (f k)) → All (IsClause vars) (upto n f)
are_upto vars n f h = All-upto (IsClause vars) n f h

pub are_at_place : {X : Type 0} (vars : ℕ) (xs : List X) (f : ℕ → X → List (List ℤ)) (i : ℕ)
    → ((x : X) → slice_get xs i ≡ Some x → All (IsClause vars) (f i x)) → All (IsClause vars) (at_place xs f i)
are_at_place {X} vars xs f i h = by (slice_get xs i) h
  where
    by : (o : Option X) → ((x : X) → o ≡ Some x → All (IsClause vars) (f i x)) → All (IsClause vars) (option_map_or (f i) o [])
    by None h = All-nil (IsClause vars)
    by (Some x) h = h x refl

-- ---- shapes

pub are_no_two : (vars n v : ℕ) → 0 < v → v + n ≤ vars + 1 → All (IsClause vars) (no_two n v)
are_no_two vars n v above room =
    are_upto vars n (not_with_later n v) (λ r r_in. are_upto vars (n - (r + 1)) (λ k. not_both v r (r + 1 + k)) (λ k k_in.
    are_one vars (minus (v + r) ∷ minus (v + (r + 1 + k)) ∷ []) (valid_two vars (minus (v + r)) (minus (v + (r + 1 + k)))
    (in_minus vars (v + r) (omega arith) (omega arith)) (in_minus vars (v + (r + 1 + k)) (omega arith) (omega arith))
    (minus_apart (v + r) (v + (r + 1 + k)) (λ e. absurd (omega arith))))))

pub are_same : (vars n v w : ℕ) → 0 < v → 0 < w → v + n ≤ vars + 1 → w + n ≤ vars + 1 → All (IsClause vars) (same n v w)
are_same vars n v w v_above w_above v_room w_room = are_upto vars n (follows v w) (λ k k_in.
    are_one vars (minus (v + k) ∷ plus (w + k) ∷ [])
    (valid_two vars (minus (v + k)) (plus (w + k)) (in_minus vars (v + k) (omega arith) (omega arith))
    (in_plus vars (w + k) (omega arith) (omega arith)) (minus_plus (v + k) (w + k) (omega arith))))

pub are_same_where : (vars g n v w : ℕ) → 0 < v → 0 < w → v + n ≤ g → w + n ≤ g → g ≤ vars → All (IsClause vars) (same_where g n v w)
are_same_where vars g n v w v_above w_above v_room w_room g_in = are_upto vars n (follows_where g v w) (λ k k_in.
    are_one vars (minus g ∷ minus (v + k) ∷ plus (w + k) ∷ []) (valid_three vars (minus g) (minus (v + k)) (plus (w + k))
    (in_minus vars g (omega arith) g_in) (in_minus vars (v + k) (omega arith) (omega arith))
    (in_plus vars (w + k) (omega arith) (omega arith))
    (minus_apart g (v + k) (λ e. absurd (omega arith))) (minus_plus g (w + k) (omega arith)) (minus_plus (v + k) (w + k) (omega arith))))

pub are_apart_unless : (vars n v w : ℕ) (z : ℤ) → IsIn vars z → 0 < v → v + n ≤ w → w + n ≤ var_of z
    → All (IsClause vars) (apart_unless z n v w)
are_apart_unless vars n v w z z_in v_above ordered room = are_upto vars n (not_both_unless z v w) (λ k k_in.
    are_one vars (z ∷ minus (v + k) ∷ minus (w + k) ∷ []) (valid_three vars z (minus (v + k)) (minus (w + k))
    z_in (in_minus vars (v + k) (omega arith) (omega (arith, z_in.below)))
    (in_minus vars (w + k) (omega arith) (omega (arith, z_in.below)))
    (other z (v + k) (omega arith)) (other z (w + k) (omega arith)) (minus_apart (v + k) (w + k) (λ e. absurd (omega arith)))))
  where
    var_minus : (v : ℕ) → var_of (minus v) ≡ v
    var_minus zero = refl
    var_minus (suc v) = refl

    other : (z : ℤ) (v : ℕ) → v < var_of z → z ≢ minus v
    other z v lt e = let same : var_of z ≡ v = ap var_of e ∙ var_minus v in absurd (omega arith)
