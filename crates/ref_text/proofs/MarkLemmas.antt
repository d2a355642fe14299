-- The literals of a line, one after another, and the marks of the variables that they met.
use Rattle.std.proofs.Common.{◌≡◌, ◌≢◌, ℕ, zero, suc, ℤ, pos, neg_ℤ, ◌+◌, ◌<◌, ◌≤◌, ◌==◌, Bool, true, false, not, List, [], ◌∷◌, ◌++◌, length, map, take, get_or, set, refl, sym, ap, subst, ◌∙◌, inl, inr, arith}
use Rattle.std.specs.Prelude.{◌&&◌, ◌||◌, All, nat_le}
use Rattle.std.specs.Bool.{if◌then◌else◌}
use Rattle.std.specs.List.{list_any}
use Rattle.std.proofs.lemmas.Bool.{cases_Bool, and_parts, not-true, or_from}
use Rattle.std.proofs.lemmas.Bool.Decides.{nat_tests}
use Rattle.std.proofs.lemmas.List.{take_more, map-append, get_or-set_same, get_or-set_other}
use Rattle.std.proofs.lemmas.List.Folds.{list_any-append, list_any_more}
use Rattle.clause_base.specs.Lit.{var_of}
use Rattle.ref_text.specs.declared.words.Signed.{Signed}
use Rattle.ref_text.specs.Form.{literal_of}
use Rattle.ref_text.specs.Fault.{is_variable, are_literals}
use Rattle.ref_text.specs.Marks.{are_met}

-- the variable of a literal that is written
pub var_literal : (value : Signed) → var_of (literal_of value) ≡ value.size
var_literal value = by value.minus value.size
  where
    by : (minus : Bool) (size : ℕ) → var_of (if minus then neg_ℤ (pos size) else pos size) ≡ size
    by false size = refl
    by true zero = refl
    by true (suc n) = refl

-- a variable is met among the literals
pub met_literals : (values : List Signed) (v : ℕ) → list_any (λ z. var_of z == v) (map literal_of values) ≡ are_met values v
met_literals [] v = refl
met_literals (x ∷ xs) v = rw (var_literal x, met_literals xs v) refl

not_or : (a b : Bool) → not (a || b) ≡ true → (a ≡ false) × (b ≡ false)
not_or true b h = cc
not_or false true h = cc
not_or false false h = (refl, refl)

or_mid : (a b c : Bool) → b ≡ true → (a || (b || c)) ≡ true
or_mid true b c h = refl
or_mid false true c h = refl
or_mid false false c h = cc

first_false : (a b c : Bool) → (a && true) ≡ false → (a && b && c) ≡ false
first_false true b c h = cc
first_false false b c h = refl

mid_false : (a b c : Bool) → b ≡ true → (a && not b && c) ≡ false
mid_false true true c h = refl
mid_false true false c h = cc
mid_false false b c h = refl

last_false : (a b c : Bool) → c ≡ false → (a && b && c) ≡ false
last_false true true c h = h
last_false true false c h = refl
last_false false b c h = refl

drop_other : (a b c : Bool) → b ≡ false → (a && not (b || c)) ≡ false → (a && not c) ≡ false
drop_other a true c h k = cc
drop_other a false c h k = k

pub all_three : (a b c : Bool) → a ≡ true → b ≡ true → c ≡ true → (a && b && c) ≡ true
all_three true true true h k l = refl
all_three true true false h k l = cc
all_three true false c h k l = cc
all_three false b c h k l = cc

both_true : (a b : Bool) → a ≡ true → b ≡ false → (a && not b) ≡ true
both_true true false h k = refl
both_true true true h k = cc
both_true false b h k = cc

other_way : (m n : ℕ) (b : Bool) → (m == n) ≡ b → (n == m) ≡ b
other_way m n true h = grind (arith, nat_tests)
other_way m n false h = grind (arith, nat_tests)

-- one more literal, of a variable that was not met
pub are_literals_push : (vars : ℕ) (zs : List ℤ) (z : ℤ) → are_literals vars zs ≡ true →
    (is_variable vars (var_of z) && not (list_any (λ y. var_of y == var_of z) zs)) ≡ true → are_literals vars (zs ++ z ∷ []) ≡ true
unfolding are_literals
are_literals_push vars [] z h free = let f = and_parts (is_variable vars (var_of z)) _ free in
    all_three (is_variable vars (var_of z)) true true f.0 refl refl
are_literals_push vars (y ∷ ys) z h free =
    let p = and_parts (is_variable vars (var_of y) && not (list_any (λ x. var_of x == var_of y) ys)) (are_literals vars ys) h in
    let q = and_parts (is_variable vars (var_of y)) (not (list_any (λ x. var_of x == var_of y) ys)) p.0 in
    let f = and_parts (is_variable vars (var_of z)) _ free in
    let g = not_or (var_of y == var_of z) (list_any (λ x. var_of x == var_of z) ys) f.1 in
    let other : (var_of z == var_of y) ≡ false = other_way (var_of y) (var_of z) false g.0 in
    let none : list_any (λ x. var_of x == var_of y) (ys ++ z ∷ []) ≡ false =
    list_any-append (λ x. var_of x == var_of y) ys (z ∷ []) ∙ or_from _ _ (not-true _ q.1) (or_from _ false other refl) in
    all_three _ _ _ q.0 (ap not none) (are_literals_push vars ys z p.1 (both_true _ _ f.0 g.1))

-- a literal of no variable of the list, or of one that was met
pub are_literals_stops : (vars : ℕ) (xs : List ℤ) (z : ℤ) (ys : List ℤ) →
    (is_variable vars (var_of z) && not (list_any (λ y. var_of y == var_of z) xs)) ≡ false → are_literals vars (xs ++ z ∷ ys) ≡ false
unfolding are_literals
are_literals_stops vars [] z ys h =
    first_false (is_variable vars (var_of z)) (not (list_any (λ y. var_of y == var_of z) ys)) (are_literals vars ys) h
are_literals_stops vars (x ∷ xs) z ys h = elim (cases_Bool (var_of x == var_of z)) [
  | inl same ↦
      let met : list_any (λ y. var_of y == var_of x) (xs ++ z ∷ ys) ≡ true =
      list_any-append (λ y. var_of y == var_of x) xs (z ∷ ys) ∙ or_mid _ _ _ (other_way (var_of x) (var_of z) true same) in
      mid_false _ _ _ met
  | inr other ↦ last_false (is_variable vars (var_of x)) (not (list_any (λ y. var_of y == var_of x) (xs ++ z ∷ ys)))
      (are_literals vars (xs ++ z ∷ ys))
      (are_literals_stops vars xs z ys
      (drop_other (is_variable vars (var_of z)) (var_of x == var_of z) (list_any (λ y. var_of y == var_of z) xs) other h))
]

-- a list around one of its elements
pub split_there : {X : Type 0} (xs : List X) (i : ℕ) (x d : X) → i < length xs → x ≡ get_or xs i d
    → (rest : List X) × (xs ≡ take i xs ++ x ∷ rest)
split_there [] i x d lt e = absurd (omega arith)
split_there (y ∷ ys) zero x d lt e = (ys, ap (λ z. z ∷ ys) (sym e))
split_there (y ∷ ys) (suc i) x d lt e = let r = split_there ys i x d (omega arith) e in (r.0, ap (λ zs. y ∷ zs) r.1)

-- a test of the marks is a test of the literals before
free_is : (vars : ℕ) (values : List Signed) (value : Signed) (marked : Bool) → marked ≡ are_met values value.size →
    (is_variable vars (var_of (literal_of value)) && not (list_any (λ z. var_of z == var_of (literal_of value)) (map literal_of values)))
    ≡ (is_variable vars value.size && not marked)
free_is vars values value marked h =
    ap (λ v. is_variable vars v && not (list_any (λ z. var_of z == v) (map literal_of values))) (var_literal value)
    ∙ ap (λ b. is_variable vars value.size && not b) (met_literals values value.size ∙ sym h)

-- after a variable that is free
pub mark_more : (vars : ℕ) (values : List Signed) (i : ℕ) (value d : Signed) (marked : Bool) → i < length values
    → value ≡ get_or values i d →
    are_literals vars (map literal_of (take i values)) ≡ true → marked ≡ are_met (take i values) value.size →
    (is_variable vars value.size && not marked) ≡ true → are_literals vars (map literal_of (take (i + 1) values)) ≡ true
mark_more vars values i value d marked lt is apart met free =
    ap (λ l. are_literals vars (map literal_of l)) (take_more values i d lt ∙ ap (λ v. take i values ++ v ∷ []) (sym is))
    ∙ ap (are_literals vars) (map-append literal_of (take i values) (value ∷ []))
    ∙ are_literals_push vars (map literal_of (take i values)) (literal_of value) apart
    (free_is vars (take i values) value marked met ∙ free)

-- at a variable that is not free
pub mark_stops : (vars : ℕ) (values : List Signed) (i : ℕ) (value d : Signed) (marked : Bool) → i < length values
    → value ≡ get_or values i d →
    marked ≡ are_met (take i values) value.size →
    (is_variable vars value.size && not marked) ≡ false → are_literals vars (map literal_of values) ≡ false
mark_stops vars values i value d marked lt is met free =
    let r = split_there values i value d lt is in
    ap (λ l. are_literals vars (map literal_of l)) r.1
    ∙ ap (are_literals vars) (map-append literal_of (take i values) (value ∷ r.0))
    ∙ are_literals_stops vars (map literal_of (take i values)) (literal_of value) (map literal_of r.0)
    (free_is vars (take i values) value marked met ∙ free)

-- the marks after one more
pub met_more : (values : List Signed) (i : ℕ) (value d : Signed) (marks : List Bool) → i < length values → value ≡ get_or values i d
    → value.size < length marks →
    ((v : ℕ) → get_or marks v false ≡ are_met (take i values) v) → (v : ℕ)
    → get_or (set marks value.size true) v false ≡ are_met (take (i + 1) values) v
met_more values i value d marks lt is within met v =
    let more : are_met (take (i + 1) values) v ≡ (are_met (take i values) v || (value.size == v)) =
    list_any_more (λ (x : Signed). x.size == v) values i d lt
    ∙ ap (λ (x : Signed). are_met (take i values) v || (x.size == v)) (sym is) in
    elim (cases_Bool (value.size == v)) [
      | inl same ↦
          let at : v ≡ value.size = grind (arith, nat_tests) in
          let P : ℕ → Type 0 = λ u. get_or (set marks value.size true) u false ≡ true in
          subst P (sym at) (get_or-set_same marks value.size true false within)
          ∙ sym (more ∙ ap (λ b. are_met (take i values) v || b) same ∙ or_true (are_met (take i values) v))
      | inr other ↦
          let apart : v ≢ value.size = λ e. grind (arith, nat_tests) in
          get_or-set_other marks value.size v true false apart ∙ met v
          ∙ sym (more ∙ ap (λ b. are_met (take i values) v || b) other ∙ or_false (are_met (take i values) v))
    ]
  where
    or_true : (b : Bool) → (b || true) ≡ true
    or_true true = refl
    or_true false = refl

    or_false : (b : Bool) → (b || false) ≡ b
    or_false true = refl
    or_false false = refl

-- a mark that was set is of some literal
pub met_kept : (values : List Signed) (i v : ℕ) → are_met (take i values) v ≡ true → are_met values v ≡ true
met_kept [] zero v h = h
met_kept [] (suc i) v h = h
met_kept (x ∷ xs) zero v h = cc
met_kept (x ∷ xs) (suc i) v h = elim (cases_Bool (x.size == v)) [
  | inl same ↦ ap (λ b. b || are_met xs v) same
  | inr other ↦ ap (λ b. b || are_met xs v) other ∙ met_kept xs i v (sym (ap (λ b. b || are_met (take i xs) v) other) ∙ h)
]

-- literals are of variables of the list
pub each_literal : (vars : ℕ) (values : List Signed) → are_literals vars (map literal_of values) ≡ true
    → All (λ value. (0 < value.size) × (value.size ≤ vars)) values
unfolding are_literals
each_literal vars [] h k d lt = absurd (omega arith)
each_literal vars (x ∷ xs) h zero d lt =
    let p = and_parts (is_variable vars (var_of (literal_of x)) && not
    (list_any (λ y. var_of y == var_of (literal_of x)) (map literal_of xs))) (are_literals vars (map literal_of xs)) h in
    let q = and_parts (is_variable vars (var_of (literal_of x)))
    (not (list_any (λ y. var_of y == var_of (literal_of x)) (map literal_of xs))) p.0 in
    let r = and_parts (nat_le 1 (var_of (literal_of x))) (nat_le (var_of (literal_of x)) vars) q.0 in
    let size = var_literal x in
    (grind (arith, nat_tests), grind (arith, nat_tests))
each_literal vars (x ∷ xs) h (suc k) d lt =
    let p = and_parts (is_variable vars (var_of (literal_of x)) && not
    (list_any (λ y. var_of y == var_of (literal_of x)) (map literal_of xs))) (are_literals vars (map literal_of xs)) h in
    each_literal vars xs p.1 k d (omega arith)
