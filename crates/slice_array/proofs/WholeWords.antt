-- The whole words that slices make.
use Rattle.std.proofs.Common.{ℕ, zero, suc, ◌+◌, ◌*◌, ◌^◌, ◌<◌, ◌≤◌, ◌≡◌, sym, ap, ◌∙◌, arith, refl, subst, List, [], ◌∷◌, length, get_or, All, replicate, drop, set}
use Rattle.std.proofs.Math.Nat.{pow-suc}
use Rattle.cpe_slice.specs.Registers.{Registers, AllBelow}
use Rattle.std.proofs.lemmas.List.Elements.{All-get_or, All-from_get_or}
use Rattle.slice_array.specs.Whole.{join, join_list, whole, zero_registers, AllSlices}
use Rattle.std.proofs.lemmas.Grind.{common_steps}

-- register R number n of a slice joined below whole words
pub index_join : (ds ws : List ℕ) (n : ℕ) → length ds ≡ length ws → get_or (join_list ds ws) n 0 ≡ get_or ws n 0 * 4 + get_or ds n 0
index_join [] [] n e = refl
index_join [] (w ∷ ws) n e = absurd (omega arith)
index_join (d ∷ ds) [] n e = absurd (omega arith)
index_join (d ∷ ds) (w ∷ ws) zero e = refl
index_join (d ∷ ds) (w ∷ ws) (suc n) e = index_join ds ws n (omega arith)

-- a join has as many registers R as the slice
pub length_join : (ds ws : List ℕ) → length ds ≡ length ws → length (join_list ds ws) ≡ length ds
length_join [] ws e = refl
length_join (d ∷ ds) [] e = absurd (omega arith)
length_join (d ∷ ds) (w ∷ ws) e = omega (arith, length_join ds ws (omega arith))

-- a digit below a number of n digits makes one of n + 1
join_lt : (n x y : ℕ) → x < 4 ^ n → y < 4 → x * 4 + y < 4 ^ suc n
join_lt n x y p q = omega (arith, pow-suc 4 n)

-- so do the registers R of a slice
all_join : (n : ℕ) (ds ws : List ℕ) → length ds ≡ length ws → All (λ x. x < 4) ds → All (λ x. x < 4 ^ n) ws
    → All (λ x. x < 4 ^ suc n) (join_list ds ws)
all_join n ds ws e d w = All-from_get_or (λ (x : ℕ). x < 4 ^ suc n) (join_list ds ws) 0
    (λ i h. rw (index_join ds ws i e)
    (let p : i < length ds = omega (arith, length_join ds ws e) in let q : i < length ws = omega arith in
    join_lt n (get_or ws i 0) (get_or ds i 0) (All-get_or (λ (x : ℕ). x < 4 ^ n) ws i 0 q w) (All-get_or (λ (x : ℕ). x < 4) ds i 0 p d)))

-- a slice joined below words of n slices makes words of n + 1
pub join_below : (n : ℕ) (s w : Registers) → AllBelow 4 s → AllBelow (4 ^ n) w → AllBelow (4 ^ suc n) (join s w)
join_below n s w d h = record {
  ten = length_join s.r w.r (d.ten ∙ sym h.ten) ∙ d.ten;
  r = all_join n s.r w.r (d.ten ∙ sym h.ten) d.r h.r;
  t = join_lt n w.t s.t h.t d.t;
  ac = join_lt n w.ac s.ac h.ac d.ac;
  mar = join_lt n w.mar s.mar h.mar d.mar;
}

-- zeros are below 1
zero_all : (n : ℕ) → All (λ x. x < 1) (replicate n 0)
zero_all n = All-from_get_or (λ (x : ℕ). x < 1) (replicate n 0) 0 (λ i h. grind (arith, common_steps))

-- n slices make words of n digits
pub whole_below : (ss : List Registers) → AllSlices ss → AllBelow (4 ^ length ss) (whole ss)
whole_below [] a = record { ten = refl; r = zero_all 10; t = omega arith; ac = omega arith; mar = omega arith }
whole_below (s ∷ ss) a = join_below (length ss) s (whole ss) a.0 (whole_below ss a.1)

-- digits below zeros are numbers of one digit
join_list_zero : (ds : List ℕ) → join_list ds (replicate (length ds) 0) ≡ ds
join_list_zero [] = refl
join_list_zero (d ∷ ds) = let e : 0 * 4 + d ≡ d = omega arith in rw (e, join_list_zero ds)

-- a slice with none above it makes words of its own digits
pub join_zero : (s : Registers) → length s.r ≡ 10 → join s zero_registers ≡ s
join_zero s e =
    let r : join_list s.r (replicate 10 0) ≡ s.r = subst (λ (l : ℕ). join_list s.r (replicate l 0) ≡ s.r) e (join_list_zero s.r) in
    let t : 0 + s.t ≡ s.t = omega arith in
    let a : 0 + s.ac ≡ s.ac = omega arith in
    let m : 0 + s.mar ≡ s.mar = omega arith in
    rw (r, t, a, m)

-- slices of zeros make words of 0
pub whole_zero : (n : ℕ) → whole (replicate n zero_registers) ≡ zero_registers
whole_zero zero = refl
whole_zero (suc n) = ap (λ (w : Registers). join zero_registers w) (whole_zero n)

-- copies of a slice are slices
pub all_replicate : (n : ℕ) (s : Registers) → AllBelow 4 s → AllSlices (replicate n s)
all_replicate zero s h = tt
all_replicate (suc n) s h = (h, all_replicate n s h)

-- slices stay so where one is replaced by a slice
pub all_set : (ss : List Registers) (j : ℕ) (s : Registers) → AllSlices ss → AllBelow 4 s → AllSlices (set ss j s)
all_set [] j s a h = tt
all_set (t ∷ ts) zero s a h = (h, a.1)
all_set (t ∷ ts) (suc j) s a h = (a.0, all_set ts j s a.1 h)

-- the slices from j on are slices
pub all_drop : (ss : List Registers) (j : ℕ) → AllSlices ss → AllSlices (drop j ss)
all_drop ss zero a = a
all_drop [] (suc j) a = tt
all_drop (s ∷ ss) (suc j) a = all_drop ss j a.1

-- a slice of slices is one
pub all_at : (ss : List Registers) (j : ℕ) (d : Registers) → j < length ss → AllSlices ss → AllBelow 4 (get_or ss j d)
all_at [] j d h a = absurd (omega arith)
all_at (s ∷ ss) zero d h a = a.0
all_at (s ∷ ss) (suc j) d h a = all_at ss j d (omega arith) a.1

-- registers below a limit are below a greater one
pub below_more_room : (m n : ℕ) (w : Registers) → m ≤ n → AllBelow m w → AllBelow n w
below_more_room m n w h a = record {
  ten = a.ten;
  r = All-from_get_or (λ (x : ℕ). x < n) w.r 0
      (λ i k. let p : get_or w.r i 0 < m = All-get_or (λ (x : ℕ). x < m) w.r i 0 k a.r in omega arith);
  t = omega (arith, a.t);
  ac = omega (arith, a.ac);
  mar = omega (arith, a.mar);
}
