-- How long the text of derived lines can be: their literals and hints set different variables.
use Rattle.std.proofs.Common.{◌≡◌, ◌≢◌, ℕ, zero, suc, ℤ, pos, negsuc, neg_ℤ, ◌+◌, ◌-◌, ◌*◌, ◌<◌, ◌≤◌, ◌^◌, ◌==◌, Bool, true, false, List, [], ◌∷◌, ◌++◌, length, map, get_or, Some, None, refl, sym, ap, subst, length-append, arith}
use Rattle.std.specs.Prelude.{◌||◌, All, AllPairs, codes, decimal, flat_map}
use Rattle.std.specs.Bool.{if◌then◌else◌}
use Rattle.std.specs.List.{list_any, IsDistinct}
use Rattle.std.proofs.Math.Nat.{suc-mul, mul-le-mul}
use Rattle.std.proofs.lemmas.Bool.Decides.{nat_tests}
use Rattle.std.proofs.lemmas.Fmt.{length-decimal-le}
use Rattle.std.proofs.lemmas.List.{length-map}
use Rattle.std.proofs.lemmas.List.Elements.{All-nil, All-cons, All-push, All-tail, All-map, recursion_from_All}
use Rattle.std.proofs.lemmas.List.Quantifiers.{all_pairs_push}
use Rattle.std.proofs.lemmas.Map.Steps.{length-le_from_distinct_below}
use Rattle.std.proofs.lemmas.Option.{slice_get_within}
use Rattle.clause_base.specs.Lit.{var_of, is_positive}
use Rattle.clause_base.specs.Clauses.{Clauses, IsClause}
use Rattle.clause_base.specs.Truth.{sign_in, value_in, IsNumbered}
use Rattle.clause_base.specs.declared.line.Line.{Line}
use Rattle.clause_base.specs.Refutation.{IsUnitRun, Derived, AreDerived}
use Rattle.ref_text.specs.Text.{number_word, literal_word, line_text, lines_text, refutation_text}
use Rattle.refute_check.specs.Check.{with_line}
use Rattle.refute_check.proofs.SignLemmas.{sign-free}
use Rattle.refute_check.proofs.LookLaws.{unit-in}
use Rattle.refute_check.proofs.RunLaws.{numbered_is}
use Rattle.refute_check.proofs.DeriveLemmas.{var_neg}
use Rattle.refute_check.proofs.PrintedLemmas.{pairs_tail, run_hints, derived_first, derived_rest}

-- literals of different variables from 1 to a bound
pub record AreApart (vars : ℕ) (held : List ℤ) : Type 0 where
  pub above : All (λ z. 0 < var_of z) held
  pub in_range : All (λ z. var_of z ≤ vars) held
  pub apart : AllPairs (λ a b. var_of a ≢ var_of b) held

distinct_vars : (zs : List ℤ) → AllPairs (λ a b. var_of a ≢ var_of b) zs → IsDistinct (λ a b. a == b) (map var_of zs)
unfolding IsDistinct
distinct_vars [] apart = tt
distinct_vars (z ∷ zs) apart = (
  recursion_from_All (λ v. (var_of z == v) ≡ false) (map var_of zs) (All-map (λ v. (var_of z == v) ≡ false) var_of zs
      (λ k d lt. let other : var_of z ≢ var_of (get_or zs k d) = apart 0 (suc k) d (omega arith) (omega arith) in
      grind (arith, nat_tests))),
  distinct_vars zs (pairs_tail (λ a b. var_of a ≢ var_of b) z zs apart),
)

within_bound : (zs : List ℤ) (vars q : ℕ) → All (λ z. var_of z ≤ vars) zs → list_any (λ v. q == v) (map var_of zs) ≡ true → q ≤ vars
within_bound [] vars q all h = cc
within_bound (z ∷ zs) vars q all h = by (q == var_of z) refl h (λ k. within_bound zs vars q (All-tail (λ z. var_of z ≤ vars) z zs all) k)
  where
    by : (b : Bool) → (q == var_of z) ≡ b → (b || list_any (λ v. q == v) (map var_of zs)) ≡ true
        → (list_any (λ v. q == v) (map var_of zs) ≡ true → q ≤ vars) → q ≤ vars
    by true is k further = let le : var_of z ≤ vars = all 0 z (omega arith) in grind (arith, nat_tests)
    by false is k further = further k

-- literals of different variables are at most as many as these; 0 is the number of none
pub few_apart : (vars : ℕ) (held : List ℤ) → AreApart vars held → length held ≤ vars
unfolding IsDistinct
few_apart vars held h =
    let all = 0 ∷ map var_of held in
    let distinct : IsDistinct (λ a b. a == b) all = (
      recursion_from_All (λ v. (0 == v) ≡ false) (map var_of held)
          (All-map (λ v. (0 == v) ≡ false) var_of held (λ k d lt. let some = h.above k d lt in grind (arith, nat_tests))),
      distinct_vars held h.apart,
    ) in
    let le = length-le_from_distinct_below all (vars + 1) distinct below in
    omega (arith, le, length-map held var_of)
  where
    below : (q : ℕ) → list_any (λ v. q == v) (0 ∷ map var_of held) ≡ true → q < vars + 1
    below q e = by (q == 0) refl e
      where
        by : (b : Bool) → (q == 0) ≡ b → (b || list_any (λ v. q == v) (map var_of held)) ≡ true → q < vars + 1
        by true is k = grind (arith, nat_tests)
        by false is k = let le = within_bound held vars q h.in_range k in omega (arith, le)

-- a literal with no value is of another variable than those that hold
free_apart : (z : ℤ) (held : List ℤ) → sign_in (var_of z) held ≡ None → All (λ y. var_of y ≢ var_of z) held
free_apart z [] none = All-nil (λ y. var_of y ≢ var_of z)
free_apart z (y ∷ ys) none = by (var_of y == var_of z) refl none (λ e. free_apart z ys e)
  where
    by : (b : Bool) → (var_of y == var_of z) ≡ b → (if b then Some (is_positive y) else sign_in (var_of z) ys) ≡ None →
        (sign_in (var_of z) ys ≡ None → All (λ x. var_of x ≢ var_of z) ys) → All (λ x. var_of x ≢ var_of z) (y ∷ ys)
    by true is e further = cc
    by false is e further =
        let other : var_of y ≢ var_of z = grind (arith, nat_tests) in
        All-cons (λ x. var_of x ≢ var_of z) y ys other (further e)

-- one literal more, of a variable with no value
apart_push : (vars : ℕ) (held : List ℤ) (z : ℤ) → AreApart vars held → 0 < var_of z → var_of z ≤ vars → value_in z held ≡ None
    → AreApart vars (held ++ z ∷ [])
apart_push vars held z h low high free = record {
  above = All-push (λ y. 0 < var_of y) held z h.above low;
  in_range = All-push (λ y. var_of y ≤ vars) held z h.in_range high;
  apart = all_pairs_push (λ a b. var_of a ≢ var_of b) held z h.apart (free_apart z held (sign-free z held free));
}

clause_valid : (vars : ℕ) (clauses : List (List ℤ)) (number : ℕ) (clause : List ℤ) → All (IsClause vars) clauses
    → IsNumbered clauses number clause → IsClause vars clause
clause_valid vars clauses number clause all n =
    let lt = slice_get_within clauses (number - 1) clause n.there in
    subst (IsClause vars) (numbered_is clauses number clause n) (all (number - 1) [] lt)

-- each hint but the last sets a variable that was not set
run_few : (vars : ℕ) (clauses : List (List ℤ)) → All (IsClause vars) clauses → (held : List ℤ) (hints : List ℕ) → AreApart vars held
    → IsUnitRun clauses held hints → length held + length hints ≤ vars + 1
run_few vars clauses all held [] h r = absurd r
run_few vars clauses all held (last ∷ []) h r = let le = few_apart vars held h in omega (arith, le)
run_few vars clauses all held (hint ∷ (next ∷ rest)) h r =
    let z = r.0 in
    let f = r.1 in
    let valid = clause_valid vars clauses hint f.clause all f.numbered in
    let low = unit-in (λ y. 0 < var_of y) held f.clause z f.unit valid.above in
    let high = unit-in (λ y. var_of y ≤ vars) held f.clause z f.unit valid.in_range in
    let u = f.unit in
    let le = run_few vars clauses all (held ++ z ∷ []) (next ∷ rest) (apart_push vars held z h low high u.unassigned) r.2 in
    omega (arith, le, length-append held (z ∷ []))

negated_apart : (vars : ℕ) (zs : List ℤ) → AreApart vars zs → AreApart vars (map neg_ℤ zs)
negated_apart vars zs h = record {
  above = All-map (λ y. 0 < var_of y) neg_ℤ zs (λ k d lt. subst (λ (n : ℕ). 0 < n) (sym (var_neg (get_or zs k d))) (h.above k d lt));
  in_range = All-map (λ y. var_of y ≤ vars) neg_ℤ zs
      (λ k d lt. subst (λ (n : ℕ). n ≤ vars) (sym (var_neg (get_or zs k d))) (h.in_range k d lt));
  apart = pairs zs h.apart;
}
  where
    pairs : (zs : List ℤ) → AllPairs (λ a b. var_of a ≢ var_of b) zs → AllPairs (λ a b. var_of a ≢ var_of b) (map neg_ℤ zs)
    pairs [] apart i j d lt within = absurd (omega arith)
    pairs (z ∷ zs) apart i zero d lt within = absurd (omega arith)
    pairs (z ∷ zs) apart zero (suc j) d lt within =
        All-map (λ y. var_of (neg_ℤ z) ≢ var_of y) neg_ℤ zs
        (λ k e inside. rw (var_neg z, var_neg (get_or zs k e)) (apart 0 (suc k) e (omega arith) (omega arith))) j d (omega arith)
    pairs (z ∷ zs) apart (suc i) (suc j) d lt within =
        pairs zs (pairs_tail (λ a b. var_of a ≢ var_of b) z zs apart) i j d (omega arith) (omega arith)

-- a derived line has at most one literal or hint more than there are variables
derived_few : (list : Clauses) (line : Line) → All (IsClause list.vars) list.clauses → Derived list line
    → length line.clause + length line.hints ≤ list.vars + 1
derived_few list line all derived =
    let held = negated_apart list.vars line.clause (record { above = derived.above; in_range = derived.in_range; apart = derived.apart })
    in
    let le = run_few list.vars list.clauses all (map neg_ℤ line.clause) line.hints held derived.run in
    omega (arith, le, length-map line.clause neg_ℤ)

-- a number with its space
number_size : (n : ℕ) → n < 2 ^ 32 → length (number_word n) ≤ 11
number_size n small = let le = length-decimal-le 10 n (omega arith) (omega arith) (omega arith) in
    omega (arith, le, length-append (decimal n) (codes " "))

literal_size : (z : ℤ) → var_of z < 2 ^ 32 → length (literal_word z) ≤ 12
literal_size (pos n) small = let le = number_size n small in omega (arith, le)
literal_size (negsuc n) small = let le = number_size (suc n) small in omega (arith, le)

literals_size : (zs : List ℤ) → All (λ z. var_of z < 2 ^ 32) zs → length (flat_map literal_word zs) ≤ 12 * length zs
literals_size [] all = omega arith
literals_size (z ∷ zs) all =
    let first = literal_size z (all 0 z (omega arith)) in
    let rest = literals_size zs (All-tail (λ z. var_of z < 2 ^ 32) z zs all) in
    omega (arith, first, rest, length-append (literal_word z) (flat_map literal_word zs))

numbers_size : (ns : List ℕ) → All (λ n. n < 2 ^ 32) ns → length (flat_map number_word ns) ≤ 12 * length ns
numbers_size [] all = omega arith
numbers_size (n ∷ ns) all =
    let first = number_size n (all 0 n (omega arith)) in
    let rest = numbers_size ns (All-tail (λ n. n < 2 ^ 32) n ns all) in
    omega (arith, first, rest, length-append (number_word n) (flat_map number_word ns))

pieces_size : (a b c d e : List ℕ) → length (a ++ b ++ c ++ d ++ e) ≡ length a + length b + length c + length d + length e
pieces_size a b c d e =
    omega (arith, length-append (a ++ b ++ c ++ d) e, length-append (a ++ b ++ c) d, length-append (a ++ b) c, length-append a b)

-- the bytes of a derived line
line_size : (list : Clauses) (line : Line) → All (IsClause list.vars) list.clauses → Derived list line → list.vars < 2 ^ 32
    → length list.clauses + 1 < 2 ^ 32 →
    length (line_text (length list.clauses + 1) line) ≤ 12 * list.vars + 27
line_size list line all derived few small =
    let hints = run_hints list.clauses (map neg_ℤ line.clause) line.hints derived.run in
    let number = number_size (length list.clauses + 1) small in
    let literals = literals_size line.clause (λ k d lt. omega (arith, derived.in_range k d lt)) in
    let numbers = numbers_size line.hints (λ k d lt. omega (arith, (hints k d lt).1)) in
    let total = derived_few list line all derived in
    omega (
      arith,
      number,
      literals,
      numbers,
      total,
      pieces_size (number_word (length list.clauses + 1)) (flat_map literal_word line.clause) (codes "0 ")
          (flat_map number_word line.hints) (codes "0\n"),
    )

clause_more : (list : Clauses) (line : Line) → Derived list line → IsClause list.vars line.clause
clause_more list line derived = record {
  above = derived.above;
  in_range = derived.in_range;
  once = λ i j d lt within same. derived.apart i j d lt within (ap var_of same);
}

-- the bytes of derived lines
pub lines_size : (lines : List Line) (list : Clauses) → All (IsClause list.vars) list.clauses → AreDerived list lines → list.vars < 2 ^ 32
    → length list.clauses + length lines < 2 ^ 32 →
    length (lines_text (length list.clauses + 1) lines) ≤ length lines * (12 * list.vars + 27)
unfolding lines_text
lines_size [] list all derived few small = omega arith
lines_size (line ∷ lines) list all derived few small =
    let head = derived_first list line lines derived in
    let first = line_size list line all head few (omega arith) in
    let grown = All-push (IsClause list.vars) list.clauses line.clause all (clause_more list line head) in
    let size = length-append list.clauses (line.clause ∷ []) in
    let rest = lines_size lines (with_line list line) grown (derived_rest list line lines derived) few (omega (arith, size)) in
    let number : length list.clauses + 1 + 1 ≡ length (list.clauses ++ line.clause ∷ []) + 1 = omega (arith, size) in
    let same : length (lines_text (length list.clauses + 1 + 1) lines) ≤ length lines * (12 * list.vars + 27) =
    subst (λ (n : ℕ). length (lines_text n lines) ≤ length lines * (12 * list.vars + 27)) (sym number) rest in
    omega (
      arith,
      first,
      same,
      suc-mul (length lines) (12 * list.vars + 27),
      length-append (line_text (length list.clauses + 1) line) (lines_text (length list.clauses + 1 + 1) lines),
    )

-- the lines of a search with a budget of a million conflicts, for a program of 128 labels
pub saved_size : (list : Clauses) (lines : List Line) → All (IsClause list.vars) list.clauses → AreDerived list lines
    → length list.clauses + length lines < 2 ^ 32 →
    list.vars ≤ 14656 → length lines ≤ 1000001 → length (refutation_text (length list.clauses) lines) < 2 ^ 39
saved_size list lines all derived small few count =
    let size = lines_size lines list all derived (omega arith) small in
    let each : 12 * list.vars + 27 ≤ 175899 = omega arith in
    let most : length lines * (12 * list.vars + 27) ≤ 1000001 * 175899 = mul-le-mul count each in
    omega (arith, size, most)
