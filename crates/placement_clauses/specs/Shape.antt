-- The clauses by their shapes. A run of variables is given by its first one.
use Rattle.std.specs.Prelude.{ℕ, ◌+◌, ℤ, List, [], ◌∷◌}
use Rattle.placement_clauses.specs.Upto.{upto, between}
use Rattle.placement_clauses.specs.Number.{plus, minus}

-- one clause
abbrev pub one : List ℤ → List (List ℤ)
one clause = clause ∷ []

-- the literal of the k-th variable from v on
abbrev pub plus_at : ℕ → ℕ → List ℤ
plus_at v k = plus (v + k) ∷ []

-- some of the n variables from v on is true
abbrev pub any_of : ℕ → ℕ → List ℤ
any_of n v = upto n (plus_at v)

-- the r-th and the s-th variable from v on are not both true
abbrev pub not_both : ℕ → ℕ → ℕ → List (List ℤ)
not_both v r s = one (minus (v + r) ∷ minus (v + s) ∷ [])

-- of the n variables from v on, the r-th is not true together with a later one
abbrev pub not_with_later : ℕ → ℕ → ℕ → List (List ℤ)
not_with_later n v r = between (r + 1) n (not_both v r)

-- no two of the n variables from v on are true
abbrev pub no_two : ℕ → ℕ → List (List ℤ)
no_two n v = upto n (not_with_later n v)

-- the k-th variable from w on is true where the k-th from v on is
abbrev pub follows : ℕ → ℕ → ℕ → List (List ℤ)
follows v w k = one (minus (v + k) ∷ plus (w + k) ∷ [])

-- each of the n variables from w on is true where its twin from v on is
abbrev pub same : ℕ → ℕ → ℕ → List (List ℤ)
same n v w = upto n (follows v w)

-- where the variable g is true, the k-th variable from w on is true where the k-th from v on is
abbrev pub follows_where : ℕ → ℕ → ℕ → ℕ → List (List ℤ)
follows_where g v w k = one (minus g ∷ minus (v + k) ∷ plus (w + k) ∷ [])

-- where the variable g is true, each of the n variables from w on is true where its twin from v on is
abbrev pub same_where : ℕ → ℕ → ℕ → ℕ → List (List ℤ)
same_where g n v w = upto n (follows_where g v w)

-- where the literal z is false, the k-th variables from v and w on are not both true
abbrev pub not_both_unless : ℤ → ℕ → ℕ → ℕ → List (List ℤ)
not_both_unless z v w k = one (z ∷ minus (v + k) ∷ minus (w + k) ∷ [])

-- where the literal z is false, no variable of the n from v on is true together with its twin from w on
abbrev pub apart_unless : ℤ → ℕ → ℕ → ℕ → List (List ℤ)
apart_unless z n v w = upto n (not_both_unless z v w)
