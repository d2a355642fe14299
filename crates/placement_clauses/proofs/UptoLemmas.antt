-- Lists made number by number.
use Rattle.std.proofs.Common.{◌≡◌, ℕ, zero, suc, ◌+◌, ◌-◌, ◌*◌, ◌/◌, ◌<◌, ◌≤◌, inl, inr, Bool, true, false, ◌||◌, List, [], ◌∷◌, ◌++◌, length, get_or, Some, refl, sym, ap, subst, ◌∙◌, arith, add-one}
use Rattle.std.specs.Prelude.{slice_get}
use Rattle.std.specs.List.{All, list_any}
use Rattle.std.proofs.lemmas.List.{length-append}
use Rattle.std.proofs.lemmas.List.Elements.{All-append, All-nil}
use Rattle.std.proofs.lemmas.Option.{get_or_from_slice_get}
use Rattle.std.proofs.lemmas.List.Folds.{list_any-append}
use Rattle.std.proofs.lemmas.Bool.{cases_order, or_cases, or_left, or_right}
use Rattle.clause_base.proofs.ListLemmas.{All-append_left, All-append_right}
use Rattle.placement_clauses.specs.Upto.{upto}
use Rattle.placement_clauses.specs.Number.{pairs_below}

-- no number
pub upto-none : {A : Type 0} (f : ℕ → List A) → upto 0 f ≡ []
unfolding upto
upto-none f = refl

-- one number more
pub upto-suc : {A : Type 0} (n : ℕ) (f : ℕ → List A) → upto (suc n) f ≡ upto n f ++ f n
unfolding upto
upto-suc n f = refl

-- one number more
pub upto-more : {A : Type 0} (n : ℕ) (f : ℕ → List A) → upto (n + 1) f ≡ upto n f ++ f n
upto-more n f = ap (λ m. upto m f) (add-one n) ∙ upto-suc n f

-- blocks of one length
pub length-upto : {A : Type 0} (m n : ℕ) (f : ℕ → List A) → ((k : ℕ) → k < n → length (f k) ≡ m) → length (upto n f) ≡ n * m
length-upto m zero f h = let e : 0 ≡ 0 * m = omega arith in ap length (upto-none f) ∙ e
length-upto m (suc n) f h =
    let before : length (upto n f) ≡ n * m = length-upto m n f (λ k lt. h k (omega arith)) in
    let last : length (f n) ≡ m = h n (omega arith) in
    let whole : length (upto (suc n) f) ≡ length (upto n f) + length (f n) = ap length (upto-suc n f) ∙ length-append (upto n f) (f n) in
    omega arith

-- an element of the first of two lists
pub slice_get-append_left : {A : Type 0} (xs ys : List A) (i : ℕ) → i < length xs → slice_get (xs ++ ys) i ≡ slice_get xs i
slice_get-append_left [] ys i lt = absurd (omega arith)
slice_get-append_left (x ∷ xs) ys zero lt = refl
slice_get-append_left (x ∷ xs) ys (suc i) lt = slice_get-append_left xs ys i (omega arith)

-- an element of the second of two lists
pub slice_get-append_right : {A : Type 0} (xs ys : List A) (i : ℕ) → slice_get (xs ++ ys) (length xs + i) ≡ slice_get ys i
slice_get-append_right [] ys i = let e : 0 + i ≡ i = omega arith in ap (slice_get ys) e
slice_get-append_right (x ∷ xs) ys i =
    let e : suc (length xs) + i ≡ suc (length xs + i) = omega arith in
    ap (slice_get ((x ∷ xs) ++ ys)) e ∙ slice_get-append_right xs ys i

-- the front is shorter than a longer front with a whole block
pub length-upto-le : {A : Type 0} (n : ℕ) (f : ℕ → List A) (k : ℕ) → k < n → length (upto k f) + length (f k) ≤ length (upto n f)
length-upto-le zero f k lt = absurd (omega arith)
length-upto-le (suc n) f k lt =
    let whole : length (upto (suc n) f) ≡ length (upto n f) + length (f n) = ap length (upto-suc n f) ∙ length-append (upto n f) (f n) in
    elim (cases_order k n) as (λ _. length (upto k f) + length (f k) ≤ length (upto (suc n) f)) [
      | inl same ↦ let e : length (upto k f) + length (f k) ≡ length (upto n f) + length (f n) =
          ap (λ m. length (upto m f) + length (f m)) same in omega arith
      | inr (inl below) ↦ let earlier : length (upto k f) + length (f k) ≤ length (upto n f) = length-upto-le n f k below in omega arith
      | inr (inr above) ↦ absurd (omega arith)
    ]

-- the j-th element of the k-th block
pub slice_get-upto : {A : Type 0} (n : ℕ) (f : ℕ → List A) (k j : ℕ) → k < n → j < length (f k)
    → slice_get (upto n f) (length (upto k f) + j) ≡ slice_get (f k) j
slice_get-upto zero f k j lt in_block = absurd (omega arith)
slice_get-upto (suc n) f k j lt in_block =
    elim (cases_order k n) as (λ _. slice_get (upto (suc n) f) (length (upto k f) + j) ≡ slice_get (f k) j) [
      | inl same ↦ ap (λ l. slice_get l (length (upto k f) + j)) (upto-suc n f)
          ∙ ap (λ m. slice_get (upto n f ++ f n) (length (upto m f) + j)) same ∙ slice_get-append_right (upto n f) (f n) j
          ∙ ap (λ m. slice_get (f m) j) (sym same)
      | inr (inl below) ↦
          let within : length (upto k f) + length (f k) ≤ length (upto n f) = length-upto-le n f k below in
          ap (λ l. slice_get l (length (upto k f) + j)) (upto-suc n f)
          ∙ slice_get-append_left (upto n f) (f n) (length (upto k f) + j) (omega arith) ∙ slice_get-upto n f k j below in_block
      | inr (inr above) ↦ absurd (omega arith)
    ]

-- the j-th element of the k-th block, where the first k blocks and those before are of length m
pub slice_get-blocks : {A : Type 0} (m n : ℕ) (f : ℕ → List A) (k j : ℕ) → ((i : ℕ) → i < n → length (f i) ≡ m) → k < n → j < m
    → slice_get (upto n f) (k * m + j) ≡ slice_get (f k) j
slice_get-blocks m n f k j h lt in_block =
    let front : length (upto k f) ≡ k * m = length-upto m k f (λ i below. h i (omega arith)) in
    let here : length (f k) ≡ m = h k lt in
    ap (λ p. slice_get (upto n f) (p + j)) (sym front) ∙ slice_get-upto n f k j lt (omega arith)

-- a fact of each element is a fact of each block's elements
pub All-upto : {A : Type 0} (P : A → Type 0) (n : ℕ) (f : ℕ → List A) → ((k : ℕ) → k < n → All P (f k)) → All P (upto n f)
All-upto P zero f h = subst (All P) (sym (upto-none f)) (All-nil P)
All-upto P (suc n) f h =
    subst (All P) (sym (upto-suc n f)) (All-append P (upto n f) (f n) (All-upto P n f (λ k lt. h k (omega arith))) (h n (omega arith)))

-- and the other way round
pub upto-All : {A : Type 0} (P : A → Type 0) (n : ℕ) (f : ℕ → List A) → All P (upto n f) → (k : ℕ) → k < n → All P (f k)
upto-All P zero f h k lt = absurd (omega arith)
upto-All P (suc n) f h k lt =
    let both : All P (upto n f ++ f n) = subst (All P) (upto-suc n f) h in
    elim (cases_order k n) as (λ _. All P (f k)) [
      | inl same ↦ subst (λ m. All P (f m)) (sym same) (All-append_right P (upto n f) (f n) both)
      | inr (inl below) ↦ upto-All P n f (All-append_left P (upto n f) (f n) both) k below
      | inr (inr above) ↦ absurd (omega arith)
    ]

-- one of so many elements passes
pub any-upto : {A : Type 0} (p : A → Bool) (n : ℕ) (f : ℕ → List A) (k : ℕ) → k < n → list_any p (f k) ≡ true
    → list_any p (upto n f) ≡ true
any-upto p zero f k lt h = absurd (omega arith)
any-upto p (suc n) f k lt h =
    ap (list_any p) (upto-suc n f) ∙ list_any-append p (upto n f) (f n)
    ∙ (elim (cases_order k n) as (λ _. (list_any p (upto n f) || list_any p (f n)) ≡ true) [
      | inl same ↦ or_right (list_any p (upto n f)) _ (ap (λ m. list_any p (f m)) (sym same) ∙ h)
      | inr (inl below) ↦ or_left _ (list_any p (f n)) (any-upto p n f k below h)
      | inr (inr above) ↦ absurd (omega arith)
    ])

-- and the other way round
pub upto-any : {A : Type 0} (p : A → Bool) (n : ℕ) (f : ℕ → List A) → list_any p (upto n f) ≡ true
    → (k : ℕ) × (k < n) × (list_any p (f k) ≡ true)
upto-any p zero f h = let none : list_any p (upto 0 f) ≡ false = ap (list_any p) (upto-none f) in absurd (cc)
upto-any p (suc n) f h =
    elim (or_cases (list_any p (upto n f)) (list_any p (f n))
    (sym (list_any-append p (upto n f) (f n)) ∙ ap (list_any p) (sym (upto-suc n f)) ∙ h)) as
    (λ _. (k : ℕ) × (k < suc n) × (list_any p (f k) ≡ true)) [
      | inl before ↦ let r = upto-any p n f before in (r.0, omega (arith, r.1), r.2)
      | inr here ↦ (n, omega arith, here)
    ]

-- lists of one element each
pub length-singles : {A : Type 0} (n : ℕ) (x : ℕ → A) → length (upto n (λ k. x k ∷ [])) ≡ n
length-singles n x = let e : n * 1 ≡ n = omega arith in length-upto 1 n (λ k. x k ∷ []) (λ k lt. refl) ∙ e

-- the k-th of lists of one element each
pub slice_get-singles : {A : Type 0} (n : ℕ) (x : ℕ → A) (k : ℕ) → k < n → slice_get (upto n (λ k. x k ∷ [])) k ≡ Some (x k)
slice_get-singles n x k lt =
    let e : k * 1 + 0 ≡ k = omega arith in
    ap (slice_get (upto n (λ k. x k ∷ []))) (sym e) ∙ slice_get-blocks 1 n (λ k. x k ∷ []) k 0 (λ i below. refl) lt (omega arith)

-- the k-th of lists of one element each
pub get_or-singles : {A : Type 0} (n : ℕ) (x : ℕ → A) (k : ℕ) (d : A) → k < n → get_or (upto n (λ k. x k ∷ [])) k d ≡ x k
get_or-singles n x k d lt = get_or_from_slice_get (upto n (λ k. x k ∷ [])) k (x k) d (slice_get-singles n x k lt)

-- how many pairs there are
pub pairs-more : (j : ℕ) → pairs_below (suc j) ≡ pairs_below j + j
pairs-more zero = refl
pairs-more (suc j) =
    let e : suc (suc j) - 1 ≡ suc j = omega arith in
    let d : suc j - 1 ≡ j = omega arith in
    ap (λ m. suc (suc j) * m / 2) e ∙ grown j ∙ ap (λ m. suc j * m / 2 + suc j) (sym d)
  where
    product : (j : ℕ) → suc (suc j) * suc j ≡ suc j * j + 2 * suc j
    product j = omega arith

    half : (a b c : ℕ) → a ≡ b + 2 * c → a / 2 ≡ b / 2 + c
    half a b c h = omega arith

    grown : (j : ℕ) → suc (suc j) * suc j / 2 ≡ suc j * j / 2 + suc j
    grown j = half _ _ _ (product j)

-- blocks of one length, for each pair of numbers
pub length-triangle : {A : Type 0} (m n : ℕ) (f : ℕ → ℕ → List A) → ((i j : ℕ) → i < j → j < n → length (f i j) ≡ m)
    → length (upto n (λ j. upto j (λ i. f i j))) ≡ pairs_below n * m
length-triangle m zero f h = let e : 0 ≡ pairs_below 0 * m = omega arith in ap length (upto-none (λ j. upto j (λ i. f i j))) ∙ e
length-triangle m (suc n) f h =
    let before : length (upto n (λ j. upto j (λ i. f i j))) ≡ pairs_below n * m =
    length-triangle m n f (λ i j lt below. h i j lt (omega arith)) in
    let last : length (upto n (λ i. f i n)) ≡ n * m = length-upto m n (λ i. f i n) (λ i lt. h i n lt (omega arith)) in
    let whole : length (upto (suc n) (λ j. upto j (λ i. f i j))) ≡ length (upto n (λ j. upto j (λ i. f i j))) + length
    (upto n (λ i. f i n)) = ap length (upto-suc n (λ j. upto j (λ i. f i j)))
    ∙ length-append (upto n (λ j. upto j (λ i. f i j))) (upto n (λ i. f i n)) in
    let e : pairs_below (suc n) * m ≡ pairs_below n * m + n * m = ap (λ p. p * m) (pairs-more n) ∙ distrib (pairs_below n) n m in
    omega arith
  where
    distrib : (a b m : ℕ) → (a + b) * m ≡ a * m + b * m
    distrib a b m = omega arith
