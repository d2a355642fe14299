-- Lists made number by number, by one rule and then by another.
use Rattle.std.proofs.Common.{◌≡◌, ℕ, zero, suc, ◌+◌, ◌-◌, ◌<◌, ◌≤◌, true, false, List, ◌++◌, refl, sym, ap, ◌∙◌, arith}
use Rattle.std.specs.Prelude.{nat_lt, if◌then◌else◌}
use Rattle.std.proofs.lemmas.Bool.Decides.{nat_tests}
use Rattle.std.proofs.lemmas.List.{append-nil, append_assoc}
use Rattle.placement_clauses.specs.Upto.{upto, joined}
use Rattle.placement_clauses.proofs.UptoLemmas.{upto-none, upto-suc}

-- a number of the first rule
pub joined-front : {A : Type 0} (n m k : ℕ) (f h : ℕ → A) → m ≡ n → k < m → joined n f h k ≡ f k
unfolding joined
joined-front n m k f h e lt = let below : nat_lt k n ≡ true = grind (arith, nat_tests) in ap (λ b. if b then f k else h (k - n)) below

-- a number of the second rule
pub joined-back : {A : Type 0} (n m k : ℕ) (f h : ℕ → A) → m ≡ n → m ≤ k → joined n f h k ≡ h (k - m)
unfolding joined
joined-back n m k f h e le =
    let past : nat_lt k n ≡ false = grind (arith, nat_tests) in
    ap (λ b. if b then f k else h (k - n)) past ∙ ap (λ a. h (k - a)) (sym e)

-- two rules that agree below a number
pub upto-same : {A : Type 0} (n : ℕ) (f h : ℕ → List A) → ((k : ℕ) → k < n → f k ≡ h k) → upto n f ≡ upto n h
upto-same zero f h same = upto-none f ∙ sym (upto-none h)
upto-same (suc n) f h same =
    let before : upto n f ≡ upto n h = upto-same n f h (λ k lt. same k (omega arith)) in
    let last : f n ≡ h n = same n (omega arith) in
    upto-suc n f ∙ (λ i. before i ++ last i) ∙ sym (upto-suc n h)

-- one number
pub upto-one : {A : Type 0} (f : ℕ → List A) → upto 1 f ≡ f 0
upto-one f = upto-suc 0 f ∙ ap (λ l. l ++ f 0) (upto-none f)

-- the lists of both rules
pub upto-joined : {A : Type 0} (n m : ℕ) (f h : ℕ → List A) → upto (n + m) (joined n f h) ≡ upto n f ++ upto m h
upto-joined n zero f h =
    let e : n + 0 ≡ n = omega arith in
    ap (λ m. upto m (joined n f h)) e
    ∙ upto-same n (joined n f h) f (λ k lt. joined-front n n k f h refl lt)
    ∙ sym (append-nil (upto n f))
    ∙ ap (λ l. upto n f ++ l) (sym (upto-none h))
upto-joined n (suc m) f h =
    let e : n + suc m ≡ suc (n + m) = omega arith in
    let same : n + m - n ≡ m = omega arith in
    let last : joined n f h (n + m) ≡ h m = joined-back n n (n + m) f h refl (omega arith) ∙ ap h same in
    ap (λ m. upto m (joined n f h)) e
    ∙ upto-suc (n + m) (joined n f h)
    ∙ (λ i. upto-joined n m f h i ++ last i)
    ∙ append_assoc (upto n f) (upto m h) (h m)
    ∙ ap (λ l. upto n f ++ l) (sym (upto-suc m h))
