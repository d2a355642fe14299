-- The list of clauses is that of its blocks.
use Rattle.std.proofs.Common.{◌≡◌, ℕ, ℤ, zero, suc, ◌+◌, ◌-◌, ◌<◌, ◌≤◌, List, [], ◌∷◌, ◌++◌, length, get_or, ap, sym, subst, ◌∙◌, arith, below_more, refl}
use Rattle.std.proofs.lemmas.List.{get_or_append_left}
use Rattle.std.proofs.lemmas.List.{append_assoc}
use Rattle.flow_graph.specs.Graph.{Graph}
use Rattle.placement_clauses.specs.Upto.{upto, joined, at_place, each_of}
use Rattle.placement_clauses.specs.Clauses.{cell_clauses, apart_from_earlier, at_clauses, pin_clauses, bound_clauses, instr_clauses, instr_traps, cell_class, apart_class, flow_class, trap_class, clauses_of}
use Rattle.placement_clauses.proofs.UptoLemmas.{upto-none, length-upto-le}
use Rattle.placement_clauses.proofs.LengthLemmas.{length-more}
use Rattle.placement_clauses.proofs.JoinedLemmas.{upto-joined, upto-one}
use Rattle.clause_encode.specs.Blocks.{instr_block, given_block, numbered_block, block_count, AreEnds}

-- the blocks one after another are the list
pub blocks_are_clauses : (g : Graph) → upto (block_count g) (numbered_block g) ≡ clauses_of g
unfolding clauses_of
blocks_are_clauses g =
    let n = length g.instrs in
    let p = length g.pins in
    let cells : List (List ℤ) = cell_class n in
    let apart : List (List ℤ) = apart_class n in
    let pins : List (List ℤ) = each_of g.pins pin_clauses in
    let start : List (List ℤ) = at_clauses g.start 0 0 in
    let bounds : List (List ℤ) = upto n (bound_clauses g.rows) in
    let flows : List (List ℤ) = flow_class g in
    let traps : List (List ℤ) = trap_class g in
    let instrs : upto (n + n) (instr_block g) ≡ flows ++ traps =
    upto-joined n n (at_place g.instrs (instr_clauses n)) (at_place g.instrs (instr_traps n)) in
    let bounded : upto (n + (n + n)) (joined n (bound_clauses g.rows) (instr_block g)) ≡ bounds ++ (flows ++ traps) =
    upto-joined n (n + n) (bound_clauses g.rows) (instr_block g) ∙ ap (λ l. bounds ++ l) instrs in
    let started : upto (1 + (n + (n + n)))
    (joined 1 (λ _. start) (joined n (bound_clauses g.rows) (instr_block g))) ≡ start ++ (bounds ++ (flows ++ traps)) =
    upto-joined 1 (n + (n + n)) (λ _. start) (joined n (bound_clauses g.rows) (instr_block g))
    ∙ (λ i. upto-one (λ (k : ℕ). start) i ++ bounded i) in
    let given : upto (p + (1 + (n + (n + n)))) (given_block g) ≡ pins ++ (start ++ (bounds ++ (flows ++ traps))) =
    upto-joined p (1 + (n + (n + n))) (at_place g.pins pin_clauses)
    (joined 1 (λ _. start) (joined n (bound_clauses g.rows) (instr_block g))) ∙ ap (λ l. pins ++ l) started in
    let parted : upto (n + (p + (1 + (n + (n + n)))))
    (joined n (apart_from_earlier n) (given_block g)) ≡ apart ++ (pins ++ (start ++ (bounds ++ (flows ++ traps)))) =
    upto-joined n (p + (1 + (n + (n + n)))) (apart_from_earlier n) (given_block g) ∙ ap (λ l. apart ++ l) given in
    upto-joined n (n + (p + (1 + (n + (n + n))))) cell_clauses (joined n (apart_from_earlier n) (given_block g))
    ∙ ap (λ l. cells ++ l) parted
    ∙ regroup cells apart pins start bounds flows traps
  where
    regroup : (cells apart pins start bounds flows traps : List (List ℤ))
        → cells ++ (apart ++ (pins ++ (start ++ (bounds ++ (flows ++ traps))))) ≡ cells ++ apart ++ (pins ++ start ++ bounds) ++ flows
        ++ traps
    regroup cells apart pins start bounds flows traps = simp append_assoc

-- the clauses of the blocks up to one are some of all
pub front_fits : (g : Graph) (k : ℕ) → k < block_count g
    → length (upto k (numbered_block g)) + length (numbered_block g k) ≤ length (clauses_of g)
front_fits g k lt =
    subst (λ (l : List (List ℤ)). length (upto k (numbered_block g)) + length (numbered_block g k) ≤ length l) (blocks_are_clauses g)
    (length-upto-le (block_count g) (numbered_block g) k lt)

-- all blocks are as long as all clauses
pub whole_fits : (g : Graph) (k : ℕ) → k ≡ block_count g → length (upto k (numbered_block g)) ≡ length (clauses_of g)
whole_fits g k e = ap (λ m. length (upto m (numbered_block g))) e ∙ ap length (blocks_are_clauses g)

-- the end of one block more
pub ends_more : (g : Graph) (before after : List ℕ) (n end : ℕ) → length before ≡ n → after ≡ before ++ end ∷ []
    → length (upto (n + 1) (numbered_block g)) ≡ end
    → ((k : ℕ) → k < n → get_or before k 0 ≡ length (upto (k + 1) (numbered_block g))) → (k : ℕ) → k < n + 1
    → get_or after k 0 ≡ length (upto (k + 1) (numbered_block g))
ends_more g before after n end count e last each = below_more _ n
    (λ k lt. ap (λ l. get_or l k 0) e ∙ get_or_append_left before (end ∷ []) 0 k (omega arith) ∙ each k lt)
    (ap (λ l. get_or l n 0) e ∙ here before n count ∙ sym last)
  where
    here : (l : List ℕ) (n : ℕ) → length l ≡ n → get_or (l ++ end ∷ []) n 0 ≡ end
    here [] n e = let zero_n : n ≡ 0 = omega arith in ap (λ m. get_or (end ∷ []) m 0) zero_n
    here (x ∷ l) zero e = absurd (omega arith)
    here (x ∷ l) (suc n) e = here l n (omega arith)

-- the block in which a place is, by the ends
pub record IsFound (g : Graph) (place found start : ℕ) : Type 0 where
  pub number_in : found < block_count g
  pub front : length (upto found (numbered_block g)) ≡ start
  pub below : start ≤ place
  pub within : place - start < length (numbered_block g found)

-- the first end above a place is that of its block
pub found_at : (g : Graph) (ends : List ℕ) (place found start : ℕ) → AreEnds g ends → found < length ends → (found ≡ 0 → start ≡ 0)
    → (0 < found → start ≡ get_or ends (found - 1) 0)
    → (0 < found → get_or ends (found - 1) 0 ≤ place) → place < get_or ends found 0 → IsFound g place found start
found_at g ends place found start are found_in none some before above =
    let end : get_or ends found 0 ≡ length (upto (found + 1) (numbered_block g)) = are.each found found_in in
    let more : length (upto (found + 1) (numbered_block g)) ≡ length (upto found (numbered_block g)) + length (numbered_block g found) =
    length-more found (numbered_block g) in
    let count = are.count in
    let (same, below) = front found found_in none some before in
    record { number_in = omega arith; front = same; below = below; within = omega arith }
  where
    front : (found : ℕ) → found < length ends → (found ≡ 0 → start ≡ 0) → (0 < found → start ≡ get_or ends (found - 1) 0)
        → (0 < found → get_or ends (found - 1) 0 ≤ place)
        → (length (upto found (numbered_block g)) ≡ start) × (start ≤ place)
    front zero found_in none some before = (ap length (upto-none (numbered_block g)) ∙ sym (none refl), omega (arith, none refl))
    front (suc k) found_in none some before =
        let back : suc k - 1 + 1 ≡ suc k = omega arith in
        let is : start ≡ get_or ends (suc k - 1) 0 = some (omega arith) in (
          sym (is ∙ are.each (suc k - 1) (omega arith) ∙ ap (λ m. length (upto m (numbered_block g))) back),
          omega (arith, before (omega arith)),
        )

-- the last end is the number of all clauses
pub last_end : (g : Graph) (ends : List ℕ) → AreEnds g ends → get_or ends (length ends - 1) 0 ≡ length (clauses_of g)
last_end g ends are =
    let count = are.count in
    let back : length ends - 1 + 1 ≡ block_count g = omega arith in
    are.each (length ends - 1) (omega arith) ∙ whole_fits g (length ends - 1 + 1) back
