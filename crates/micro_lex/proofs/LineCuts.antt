-- The first line of a text, as `next_line` finds it.
use Rattle.std.proofs.Common.{◌≡◌, ℕ, zero, suc, ◌+◌, ◌-◌, ◌≤◌, ◌<◌, eqb, List, [], ◌∷◌, length, get_or, take, drop, refl, sym, ap, ◌∙◌, eq-eqb, min, ◌⊎◌, arith, inl, inr, eqb-true}
use Rattle.std.specs.List.{prefix_len}
use Rattle.std.specs.Prelude.{map}
use Rattle.std.proofs.lemmas.Bool.{cases_Bool, cases_lt, ne_eqb}
use Rattle.std.proofs.lemmas.List.{get_or-take, get_or-drop, length-take, length-drop, take-take, drop-drop, drop_all}
use Rattle.micro_lex.specs.Lines.{pieces, onto_first, without_cr, lines, is_not_lf}

-- a byte before the first piece lengthens it
joined : (b : ℕ) (bs : List ℕ) (p : ℕ) → pieces bs ≡ take p bs ∷ pieces (drop (p + 1) bs)
    → onto_first b (pieces bs) ≡ take (1 + p) (b ∷ bs) ∷ pieces (drop (1 + p + 1) (b ∷ bs))
joined b bs p h =
    let e2 : 1 + p + 1 ≡ suc (p + 1) = omega arith in
    let e1 : 1 + p ≡ suc p = omega arith in
    ap (onto_first b) h ∙ rw (e2, e1) refl

-- the first piece, and the others
pub pieces_split : (bs : List ℕ) → 0 < length bs
    → pieces bs ≡ take (prefix_len is_not_lf bs) bs ∷ pieces (drop (prefix_len is_not_lf bs + 1) bs)
pieces_split [] h = absurd (omega arith)
pieces_split (b ∷ []) h = elim (cases_Bool (eqb b 10)) [ inl e ↦ rw e refl | inr e ↦ rw e refl ]
pieces_split (b ∷ c ∷ bs) h = elim (cases_Bool (eqb b 10)) [
  | inl e ↦ rw e refl
  | inr e ↦ rw e (joined b (c ∷ bs) (prefix_len is_not_lf (c ∷ bs)) (pieces_split (c ∷ bs) (omega arith)))
]

-- the byte after the first piece is its LF
piece_ends : (bs : List ℕ) → prefix_len is_not_lf bs < length bs → get_or bs (prefix_len is_not_lf bs) 0 ≡ 10
piece_ends [] below = absurd (omega arith)
piece_ends (b ∷ bs) below = elim (cases_Bool (eqb b 10)) [
  | inl e ↦ rw e (eqb-true b 10 e)
  | inr e ↦
      let step : prefix_len is_not_lf (b ∷ bs) ≡ suc (prefix_len is_not_lf bs) = rw e (omega arith) in
      let rest : prefix_len is_not_lf bs < length bs = omega arith in
      ap (λ k. get_or (b ∷ bs) k 0) step ∙ piece_ends bs rest
]

-- a line ends with its LF, or with the text
pub line_ended : (bytes : List ℕ) (at stop after : ℕ) → at < length bytes → stop ≡ at + prefix_len is_not_lf (drop at bytes) →
    stop ≤ length bytes → after ≡ min (stop + 1) (length bytes) → (after ≡ length bytes) ⊎ (get_or bytes (after - 1) 0 ≡ 10)
line_ended bytes at stop after within stop_is most after_is = elim (cases_lt stop (length bytes)) [
  | inl lt ↦
      let below : prefix_len is_not_lf (drop at bytes) < length (drop at bytes) = omega (arith, length-drop at bytes) in
      let place : at + prefix_len is_not_lf (drop at bytes) ≡ after - 1 = omega arith in
      inr (ap (λ k. get_or bytes k 0) (sym place) ∙ sym (get_or-drop at bytes (prefix_len is_not_lf (drop at bytes)) 0)
      ∙ piece_ends (drop at bytes) below)
  | inr ge ↦ inl (omega arith)
]

-- a CR at the end goes, and nothing else does
pub cr_goes : (n : ℕ) (xs : List ℕ) → length xs ≡ suc n → get_or xs n 0 ≡ 13 → without_cr xs ≡ take n xs
cr_goes n [] e h = absurd (omega arith)
cr_goes zero (b ∷ []) e h = rw (eq-eqb b 13 h) refl
cr_goes zero (b ∷ c ∷ bs) e h = absurd (omega arith)
cr_goes (suc n) (b ∷ []) e h = absurd (omega arith)
cr_goes (suc n) (b ∷ c ∷ bs) e h = ap (λ (l : List ℕ). b ∷ l) (cr_goes n (c ∷ bs) (omega arith) h)

-- a last byte that is no CR stays
pub other_stays : (n : ℕ) (xs : List ℕ) → length xs ≡ suc n → (get_or xs n 0 ≡ 13 → ⊥) → without_cr xs ≡ xs
other_stays n [] e h = refl
other_stays zero (b ∷ []) e h = rw (ne_eqb b 13 h) refl
other_stays zero (b ∷ c ∷ bs) e h = absurd (omega arith)
other_stays (suc n) (b ∷ []) e h = absurd (omega arith)
other_stays (suc n) (b ∷ c ∷ bs) e h = ap (λ (l : List ℕ). b ∷ l) (other_stays n (c ∷ bs) (omega arith) h)

-- the last byte of the piece
last_of : (bytes : List ℕ) (start stop n : ℕ) → stop ≤ length bytes → stop ≡ start + suc n
    → get_or (take (stop - start) (drop start bytes)) n 0 ≡ get_or bytes (stop - 1) 0
last_of bytes start stop n le e =
    let at : stop - 1 ≡ start + n = omega arith in
    rw (get_or-take (stop - start) (drop start bytes) n 0 (omega arith), get_or-drop, at) refl

-- how long the piece is
piece_len_is : (bytes : List ℕ) (start stop n : ℕ) → stop ≤ length bytes → stop ≡ start + suc n
    → length (take (stop - start) (drop start bytes)) ≡ suc n
piece_len_is bytes start stop n le e = omega (arith, length-take (stop - start) (drop start bytes), length-drop start bytes)

-- a piece that ends in a CR is kept without it
pub kept_goes : (bytes : List ℕ) (start stop : ℕ) → start < stop → stop ≤ length bytes → get_or bytes (stop - 1) 0 ≡ 13
    → take (stop - 1 - start) (drop start bytes) ≡ without_cr (take (stop - start) (drop start bytes))
kept_goes bytes start stop lt le h =
    let n : ℕ = stop - 1 - start in
    let e : stop ≡ start + suc n = omega arith in
    let cut = cr_goes n (take (stop - start) (drop start bytes)) (piece_len_is bytes start stop n le e)
    (last_of bytes start stop n le e ∙ h) in
    sym (cut ∙ take-take n (stop - start) (drop start bytes) (omega arith))

-- any other piece is kept whole
pub kept_stays : (bytes : List ℕ) (start stop : ℕ) → start < stop → stop ≤ length bytes → (get_or bytes (stop - 1) 0 ≡ 13 → ⊥)
    → take (stop - start) (drop start bytes) ≡ without_cr (take (stop - start) (drop start bytes))
kept_stays bytes start stop lt le h =
    let n : ℕ = stop - 1 - start in
    let e : stop ≡ start + suc n = omega arith in
    sym (other_stays n (take (stop - start) (drop start bytes)) (piece_len_is bytes start stop n le e)
    (λ same. h (sym (last_of bytes start stop n le e) ∙ same)))

-- an empty piece stays empty
pub nothing_stays : (bytes : List ℕ) (start stop : ℕ) → stop ≤ start
    → take (stop - start) (drop start bytes) ≡ without_cr (take (stop - start) (drop start bytes))
nothing_stays bytes start stop le = let e : stop - start ≡ 0 = omega arith in rw e refl

-- the line that `next_line` finds, and the lines after it
pub line_cut : (bytes : List ℕ) (at stop end after : ℕ) → at < length bytes → stop ≡ at + prefix_len is_not_lf (drop at bytes)
    → stop ≤ length bytes
    → take (end - at) (drop at bytes) ≡ without_cr (take (stop - at) (drop at bytes)) → after ≡ min (stop + 1) (length bytes)
    → lines (drop at bytes) ≡ take (end - at) (drop at bytes) ∷ lines (drop after bytes)
line_cut bytes at stop end after lt s within kept a =
    let p : prefix_len is_not_lf (drop at bytes) ≡ stop - at = omega arith in
    let split = pieces_split (drop at bytes) (omega (arith, length-drop at bytes)) in
    let rest : drop (prefix_len is_not_lf (drop at bytes) + 1) (drop at bytes) ≡ drop after bytes =
    drop-drop (prefix_len is_not_lf (drop at bytes) + 1) at bytes ∙ elim (cases_lt stop (length bytes)) [
      | inl lt ↦ ap (λ (n : ℕ). drop n bytes) (omega arith)
      | inr ge ↦ drop_all (at + (prefix_len is_not_lf (drop at bytes) + 1)) bytes (omega arith) ∙ sym (drop_all after bytes (omega arith))
    ] in
    ap (map without_cr) split
    ∙ ap (λ (k : ℕ). without_cr (take k (drop at bytes)) ∷ lines (drop (prefix_len is_not_lf (drop at bytes) + 1) (drop at bytes))) p
    ∙ ap (λ (l : List ℕ). l ∷ lines (drop (prefix_len is_not_lf (drop at bytes) + 1) (drop at bytes))) (sym kept)
    ∙ ap (λ (xs : List ℕ). take (end - at) (drop at bytes) ∷ lines xs) rest
