use Rattle.std.proofs.Common.{◌≡◌, ◌≢◌, ℕ, zero, suc, ℤ, pos, negsuc, neg_ℤ, ◌+◌, ◌-◌, ◌<◌, ◌≤◌, ◌==◌, false, not, List, [], ◌∷◌, ◌++◌, length, take, map, get_or, Option, None, Result, Ok, Err, refl, sym, ap, subst, ◌∙◌, arith}
use Rattle.std.specs.Prelude.{All, AllPairs, IfOk, slice_index}
use Rattle.std.specs.Bool.{if◌then◌else◌}
use Rattle.std.specs.Option.{option_map}
use Rattle.std.proofs.lemmas.Bool.Decides.{nat_tests}
use Rattle.std.proofs.lemmas.List.{get_or-take, length-take-le, take_more, take_all}
use Rattle.clause_base.specs.Lit.{var_of, is_positive}
use Rattle.clause_base.specs.Clauses.{Clauses}
use Rattle.clause_base.specs.Truth.{sign_in, value_in}
use Rattle.clause_base.specs.declared.line.Line.{Line}
use Rattle.clause_base.specs.Refutation.{Derived, IsUnitRun}
use Rattle.ref_text.specs.declared.why.Why.{Why}
use Rattle.refute_check.specs.Hints.{judged, AreHints}
use Rattle.refute_check.proofs.RunLaws.{run_passes, passed_runs}

pub var_neg : (z : ℤ) → var_of (neg_ℤ z) ≡ var_of z
var_neg (pos zero) = refl
var_neg (pos (suc n)) = refl
var_neg (negsuc n) = refl

sign_none : (v : ℕ) (ys : List ℤ) → ((k : ℕ) (d : ℤ) → k < length ys → var_of (get_or ys k d) ≢ v) → sign_in v (map neg_ℤ ys) ≡ None
sign_none v [] h = refl
sign_none v (y ∷ ys) h =
    let other : var_of (neg_ℤ y) ≢ v = subst (λ (n : ℕ). n ≢ v) (sym (var_neg y)) (h 0 y (omega arith)) in
    let no : (var_of (neg_ℤ y) == v) ≡ false = grind (arith, nat_tests) in
    rw no (sign_none v ys (λ k d lt. h (suc k) d (omega arith)))

-- a literal of a variable of its own has no value under the negations of those before it
pub negated_free : (xs : List ℤ) (i : ℕ) (x : ℤ) → AllPairs (λ a b. var_of a ≢ var_of b) xs → i < length xs → get_or xs i x ≡ x
    → value_in (neg_ℤ x) (map neg_ℤ (take i xs)) ≡ None
negated_free xs i x apart lt is =
    let len : length (take i xs) ≡ i = length-take-le i xs (omega arith) in
    let none : sign_in (var_of (neg_ℤ x)) (map neg_ℤ (take i xs)) ≡ None =
    rw (var_neg x) (sign_none (var_of x) (take i xs) (λ k d h.
    let below : k < i = omega arith in
    let inside : k < length xs = omega arith in
    let p : var_of (get_or xs k x) ≢ var_of x = subst (λ (z : ℤ). var_of (get_or xs k x) ≢ var_of z) is (apart k i x below lt) in
    subst (λ (z : ℤ). var_of z ≢ var_of x) (sym (get_or-take i xs k d below ∙ any_default xs k d x inside)) p)) in
    ap (option_map (λ s. if is_positive (neg_ℤ x) then s else not s)) none
  where
    any_default : (ys : List ℤ) (k : ℕ) (d x : ℤ) → k < length ys → get_or ys k d ≡ get_or ys k x
    any_default [] k d x h = absurd (omega arith)
    any_default (y ∷ ys) zero d x h = refl
    any_default (y ∷ ys) (suc k) d x h = any_default ys k d x (omega arith)

-- a list with an end is a front and its last
pub front_last : (hs : List ℕ) → 0 < length hs → hs ≡ take (length hs - 1) hs ++ slice_index hs (length hs - 1) ∷ []
front_last hs some =
    let more = take_more hs (length hs - 1) 0 (omega arith) in
    let n : length hs - 1 + 1 ≡ length hs = omega arith in
    sym (take_all (length hs) hs (omega arith)) ∙ ap (λ (k : ℕ). take k hs) (sym n) ∙ more ∙ refl

pub judged_runs : (clauses : List (List ℤ)) (held : List ℤ) (hs : List ℕ) → 0 < length hs → AreHints clauses hs
    → judged clauses held hs ≡ None → IsUnitRun clauses held hs
judged_runs clauses held hs some hints e =
    let f = front_last hs some in
    subst (λ (l : List ℕ). IsUnitRun clauses held l) (sym f)
    (passed_runs clauses held (take (length hs - 1) hs) (slice_index hs (length hs - 1))
    (subst (λ (l : List ℕ). AreHints clauses l) f hints) e)

pub runs_judged : (clauses : List (List ℤ)) (held : List ℤ) (hs : List ℕ) → 0 < length hs → IsUnitRun clauses held hs
    → judged clauses held hs ≡ None
runs_judged clauses held hs some r =
    let f = front_last hs some in
    run_passes clauses held (take (length hs - 1) hs) (slice_index hs (length hs - 1))
    (subst (λ (l : List ℕ). IsUnitRun clauses held l) f r)

-- the answer tells exactly whether the line is derived
pub record IsExact (list : Clauses) (line : Line) (fault : Option Why) : Type 0 where
  pub ok : fault ≡ None → Derived list line
  pub only : Derived list line → fault ≡ None

pub tells : (list : Clauses) (line : Line) (fault : Option Why) → All (λ z. 0 < var_of z) line.clause
    → All (λ z. var_of z ≤ list.vars) line.clause → AllPairs (λ a b. var_of a ≢ var_of b) line.clause → 0 < length line.hints
    → AreHints list.clauses line.hints → fault ≡ judged list.clauses (map neg_ℤ line.clause) line.hints → IsExact list line fault
tells list line fault above in_range apart some hints e = record {
  ok = λ none. record {
    above = above;
    in_range = in_range;
    apart = apart;
    run = judged_runs list.clauses (map neg_ℤ line.clause) line.hints some hints (sym e ∙ none);
  };
  only = λ d. e ∙ runs_judged list.clauses (map neg_ℤ line.clause) line.hints some d.run;
}

-- a fact of each answer gives another
pub each_answer : {A E : Type 0} (P Q : A → Type 0) → ((answer : A) → P answer → Q answer) → (result : Result A E) → IfOk result P
    → IfOk result Q
each_answer P Q k (Ok answer) h = k answer h
each_answer P Q k (Err e) h = h
