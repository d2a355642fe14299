-- The list of clauses in blocks, numbered from 0 (this project's own choice).
use Rattle.std.specs.Prelude.{ℕ, ◌≡◌, ◌+◌, ◌<◌, ℤ, List, length, slice_index}
use Rattle.flow_graph.specs.Graph.{Graph}
use Rattle.placement_clauses.specs.Upto.{upto, joined, at_place}
use Rattle.placement_clauses.specs.Clauses.{cell_clauses, apart_from_earlier, at_clauses, pin_clauses, bound_clauses, instr_clauses, instr_traps}
use Rattle.clause_encode.specs.declared.blocks.Block.{Block}
use Rattle.clause_encode.specs.declared.blocks.Block.TheVariants.{Cell, Apart, At, Bound, Flow, Traps}

-- the clauses of a block
abbrev pub block_clauses : Graph → Block → List (List ℤ)
block_clauses g (Cell label) = cell_clauses label
block_clauses g (Apart label) = apart_from_earlier (length g.instrs) label
block_clauses g (At label row col) = at_clauses label row col
block_clauses g (Bound label) = bound_clauses g.rows label
block_clauses g (Flow label) = at_place g.instrs (instr_clauses (length g.instrs)) label
block_clauses g (Traps label) = at_place g.instrs (instr_traps (length g.instrs)) label

-- a block of a label of the program, and of a cell of the matrix
abbrev pub IsBlock : Graph → Block → Type 0
IsBlock g (Cell label) = label < length g.instrs
IsBlock g (Apart label) = label < length g.instrs
IsBlock g (At label row col) = (label < length g.instrs) × (row < 32) × (col < 16)
IsBlock g (Bound label) = label < length g.instrs
IsBlock g (Flow label) = label < length g.instrs
IsBlock g (Traps label) = label < length g.instrs

-- how many blocks there are: one for each label in each class, in the third one for each pin and the start too
abbrev pub block_count : Graph → ℕ
block_count g = length g.instrs + (length g.instrs + (length g.pins + (1 + (length g.instrs + (length g.instrs + length g.instrs)))))

-- the clauses of a block of the last two classes
abbrev pub instr_block : Graph → ℕ → List (List ℤ)
instr_block g = joined (length g.instrs) (at_place g.instrs (instr_clauses (length g.instrs)))
    (at_place g.instrs (instr_traps (length g.instrs)))

-- the clauses of a block of the third class, or of a later one
abbrev pub given_block : Graph → ℕ → List (List ℤ)
given_block g =
    joined (length g.pins) (at_place g.pins pin_clauses)
    (joined 1 (λ _. at_clauses g.start 0 0) (joined (length g.instrs) (bound_clauses g.rows) (instr_block g)))

-- the clauses of the block of a number
abbrev pub numbered_block : Graph → ℕ → List (List ℤ)
numbered_block g = joined (length g.instrs) cell_clauses (joined (length g.instrs) (apart_from_earlier (length g.instrs)) (given_block g))

-- for each block of the program, how many clauses there are up to its end
pub record AreEnds (g : Graph) (ends : List ℕ) : Type 0 where
  pub count : length ends ≡ block_count g
  pub each : (k : ℕ) → k < length ends → slice_index ends k ≡ length (upto (k + 1) (numbered_block g))
