-- The truth value of each variable under a placement, in the order of the variables' numbers. What they mean is this
-- project's own choice.
use Rattle.std.specs.Prelude.{ℕ, ◌≡◌, ◌==◌, ◌&&◌, nat_lt, Bool, true, false, not, List, [], ◌∷◌, ◌++◌, length, Option, Some, slice_get}
use Rattle.std.specs.Option.{option_map_or}
use Rattle.mcu_jumps.specs.Position.{Position}
use Rattle.mcu_jumps.specs.declared.kinds.Kind.{Kind}
use Rattle.mcu_jumps.specs.declared.kinds.Kind.TheVariants as kind
use Rattle.flow_graph.specs.declared.instructions.Instr.{Instr}
use Rattle.flow_graph.specs.Graph.{Graph}
use Rattle.placement_clauses.specs.Upto.{upto, each_of}
use Rattle.placement_clauses.specs.Number.{row_var, col_var}
use Rattle.placement_clauses.specs.FirstLabel.{first_label}

-- the row of a label
abbrev pub row_at : List Position → ℕ → ℕ
row_at place i = option_map_or (λ cell. cell.row) (slice_get place i) 0

-- the column of a label
abbrev pub col_at : List Position → ℕ → ℕ
col_at place i = option_map_or (λ cell. cell.col) (slice_get place i) 0

-- n values, of which the one at place v is true
abbrev pub one_hot : ℕ → ℕ → List Bool
one_hot n v = upto n (λ k. (v == k) ∷ [])

-- label i has each row, and each column
abbrev pub cell_truths : List Position → ℕ → List Bool
cell_truths place i = one_hot 32 (row_at place i) ++ one_hot 16 (col_at place i)

-- the rows of the labels i and j differ
abbrev pub differ_truth : List Position → ℕ → ℕ → List Bool
differ_truth place j i = not (row_at place i == row_at place j) ∷ []

-- the rows of label j and of each earlier label differ
abbrev pub differ_truths : List Position → ℕ → List Bool
differ_truths place j = upto j (differ_truth place j)

-- the ways in which `goto m` leads from s: within one column, to row 0 below column 15, within one row
abbrev pub goto_truths : List Position → ℕ → ℕ → List Bool
goto_truths place s m =
    (col_at place s == col_at place m)
    ∷ ((row_at place m == 0) && nat_lt (col_at place m) 15)
    ∷ (row_at place s == row_at place m)
    ∷ []

-- these ways for a flow statement: false where it is no `goto`
abbrev pub flow_truths : List Position → ℕ → Kind → List (Option ℕ) → List Bool
flow_truths place s kind.Goto targets = goto_truths place s (first_label targets)
flow_truths place s _ targets = false ∷ false ∷ false ∷ []

-- these ways for an instruction
abbrev pub instr_truths : List Position → ℕ → Instr → List Bool
instr_truths place s instr = flow_truths place s instr.kind instr.targets

-- the value of each variable
unfoldable pub meaning : Graph → List Position → List Bool
meaning g place =
    upto (length g.instrs) (cell_truths place)
    ++ upto (length g.instrs) (differ_truths place)
    ++ each_of g.instrs (instr_truths place)

-- each label has a row and a column whose variables are true
abbrev pub HaveTrueCells : (ℕ → Bool) → List Position → Type 0
HaveTrueCells values place = (i : ℕ) (cell : Position) → slice_get place i ≡ Some cell
    → (values (row_var i cell.row) ≡ true) × (values (col_var i cell.col) ≡ true)
