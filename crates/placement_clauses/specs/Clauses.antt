-- The placement clauses of a program, numbered from 1 in this order (this project's own choice). Labels are numbered
-- from 0 in source order, n is how many there are, r and q are rows, c is a column and o an outcome.
use Rattle.std.specs.Prelude.{ℕ, ◌+◌, ◌==◌, if◌then◌else◌, ℤ, List, [], ◌∷◌, ◌++◌, length, Option, is_some}
use Rattle.std.specs.Option.{option_map_or}
use Rattle.mcu_jumps.specs.declared.kinds.Kind.{Kind}
use Rattle.mcu_jumps.specs.declared.kinds.Kind.TheVariants as kind
use Rattle.flow_graph.specs.declared.instructions.Instr.{Instr}
use Rattle.flow_graph.specs.declared.pinning.Pin.{Pin}
use Rattle.flow_graph.specs.Graph.{Graph}
use Rattle.placement_clauses.specs.Upto.{upto, between, each_of}
use Rattle.placement_clauses.specs.Number.{plus, minus, row_var, col_var, differ_var, pair_var, way_var}
use Rattle.placement_clauses.specs.Shape.{one, plus_at, any_of, no_two, same, same_where, apart_unless}
use Rattle.placement_clauses.specs.FirstLabel.{first_real, first_label}
use Rattle.placement_clauses.specs.Reaching.{reaches, col_of, keeps_half}

-- class 1 of label i: some row, some column, no two rows, no two columns
unfoldable pub cell_clauses : ℕ → List (List ℤ)
cell_clauses i =
    one (any_of 32 (row_var i 0))
    ++ one (any_of 16 (col_var i 0))
    ++ no_two 32 (row_var i 0)
    ++ no_two 16 (col_var i 0)

-- class 2 of the labels i and j, i below j: where their rows do not differ, their columns do
unfoldable pub apart_clauses : ℕ → ℕ → ℕ → List (List ℤ)
apart_clauses n j i =
    apart_unless (minus (differ_var n i j)) 32 (row_var i 0) (row_var j 0)
    ++ apart_unless (plus (differ_var n i j)) 16 (col_var i 0) (col_var j 0)

-- label i has row r and column c
abbrev pub at_clauses : ℕ → ℕ → ℕ → List (List ℤ)
at_clauses i r c = one (plus (row_var i r) ∷ []) ++ one (plus (col_var i c) ∷ [])

-- label i has no row from the bound on
abbrev pub not_in_row : ℕ → ℕ → List (List ℤ)
not_in_row i r = one (minus (row_var i r) ∷ [])

-- label i has no row from the bound up to 31
abbrev pub bound_clauses : ℕ → ℕ → List (List ℤ)
bound_clauses rows i = between rows 32 (not_in_row i)

-- class 4 of instruction s, `goto m`: one of three ways; the first keeps the column; the second leads to row 0, and
-- not to column 15, whose strobe a `goto` does not give; the third keeps the row
abbrev pub goto_clauses : ℕ → ℕ → ℕ → List (List ℤ)
goto_clauses n s m =
    one (plus (way_var n s 0) ∷ plus (way_var n s 1) ∷ plus (way_var n s 2) ∷ [])
    ++ same_where (way_var n s 0) 16 (col_var s 0) (col_var m 0)
    ++ one (minus (way_var n s 1) ∷ plus (row_var m 0) ∷ [])
    ++ one (minus (way_var n s 1) ∷ minus (col_var m 15) ∷ [])
    ++ same_where (way_var n s 2) 32 (row_var s 0) (row_var m 0)

-- row q of label x, where it is reached from row r
abbrev pub reach_lit : Kind → ℕ → ℕ → ℕ → List ℤ
reach_lit k x r q = if reaches k r q then plus_at (row_var x 0) q else []

-- where instruction s is in row r, label x is in a row that is reached from there
abbrev pub reach_clause : Kind → ℕ → ℕ → ℕ → List (List ℤ)
reach_clause k s x r = one (minus (row_var s r) ∷ upto 32 (reach_lit k x r))

-- label x stands in a row that is reached from the row of instruction s
abbrev pub reach_clauses : Kind → ℕ → ℕ → List (List ℤ)
reach_clauses k s x = upto 32 (reach_clause k s x)

-- where instruction s is in column c, label y is in the column of outcome o
abbrev pub col_clause : Kind → ℕ → ℕ → ℕ → ℕ → List (List ℤ)
col_clause k s o y c = one (minus (col_var s c) ∷ plus (col_var y (col_of k o c)) ∷ [])

-- label y stands in the column of outcome o
abbrev pub col_clauses : Kind → ℕ → ℕ → ℕ → List (List ℤ)
col_clauses k s o y = if keeps_half k
    then upto 16 (col_clause k s o y)
    else one (plus (col_var y (col_of k o 0)) ∷ [])

-- label y, of outcome o, stands in the row of label x, of the first outcome e with a label, and in its column
abbrev pub outcome_clauses : Kind → ℕ → ℕ → ℕ → ℕ → ℕ → List (List ℤ)
outcome_clauses k s e x o y = (if o == e then [] else same 32 (row_var x 0) (row_var y 0)) ++ col_clauses k s o y

-- the same of a target: none for the trap
abbrev pub target_clauses : Kind → ℕ → ℕ → ℕ → ℕ → Option ℕ → List (List ℤ)
target_clauses k s e x o target = option_map_or (outcome_clauses k s e x o) target []

-- class 4 of instruction s, a test: x is its first label, of outcome e
abbrev pub test_clauses : Kind → ℕ → List (Option ℕ) → ℕ → ℕ → List (List ℤ)
test_clauses k s targets e x = reach_clauses k s x ++ each_of targets (target_clauses k s e x)

-- class 4 of instruction s
unfoldable pub flow_clauses : ℕ → ℕ → Kind → List (Option ℕ) → List (List ℤ)
flow_clauses n s kind.Goto targets = goto_clauses n s (first_label targets)
flow_clauses n s kind.Strobe targets = at_clauses (first_label targets) 0 15
flow_clauses n s kind.Enable targets =
    same 16 (col_var s 0) (col_var (first_label targets) 0)
    ++ reach_clauses kind.Enable s (first_label targets)
flow_clauses n s k targets = test_clauses k s targets (first_real targets) (first_label targets)

-- label z does not stand where trap outcome o lands: in the row of label x, of outcome e, and in the column of o
abbrev pub trap_pair : ℕ → Kind → ℕ → ℕ → ℕ → ℕ → List (List ℤ)
trap_pair n k x e o z = if keeps_half k
    then one (plus (pair_var n x z) ∷ minus (col_var x (2 + e)) ∷ minus (col_var z (2 + o)) ∷ [])
    ++ one (plus (pair_var n x z) ∷ minus (col_var x (10 + e)) ∷ minus (col_var z (10 + o)) ∷ [])
    else one (plus (pair_var n x z) ∷ minus (col_var z (col_of k o 0)) ∷ [])

-- the same of every label but x
abbrev pub trap_of : ℕ → Kind → ℕ → ℕ → ℕ → ℕ → List (List ℤ)
trap_of n k x e o z = if z == x then [] else trap_pair n k x e o z

-- no label stands where outcome o lands, if that is the trap
abbrev pub trap_outcome : ℕ → Kind → ℕ → ℕ → ℕ → Option ℕ → List (List ℤ)
trap_outcome n k x e o target = if is_some target then [] else upto n (trap_of n k x e o)

-- class 5 of an instruction
unfoldable pub trap_clauses : ℕ → Kind → List (Option ℕ) → List (List ℤ)
trap_clauses n k targets = each_of targets (trap_outcome n k (first_label targets) (first_real targets))

-- class 1: each label has one cell
abbrev pub cell_class : ℕ → List (List ℤ)
cell_class n = upto n cell_clauses

-- class 2 of label j and the labels before it
abbrev pub apart_from_earlier : ℕ → ℕ → List (List ℤ)
apart_from_earlier n j = upto j (apart_clauses n j)

-- class 2: the cells of two labels differ
abbrev pub apart_class : ℕ → List (List ℤ)
apart_class n = upto n (apart_from_earlier n)

-- a pinned label has its cell
abbrev pub pin_clauses : ℕ → Pin → List (List ℤ)
pin_clauses k pin = at_clauses pin.label pin.cell.row pin.cell.col

-- class 3: the cells of the pins, the start label at row 0, column 0, and the rows below the bound
abbrev pub given_class : Graph → List (List ℤ)
given_class g = each_of g.pins pin_clauses ++ at_clauses g.start 0 0 ++ upto (length g.instrs) (bound_clauses g.rows)

-- class 4 of an instruction of n
abbrev pub instr_clauses : ℕ → ℕ → Instr → List (List ℤ)
instr_clauses n s instr = flow_clauses n s instr.kind instr.targets

-- class 4: each instruction has a jump that lands on its labels
abbrev pub flow_class : Graph → List (List ℤ)
flow_class g = each_of g.instrs (instr_clauses (length g.instrs))

-- class 5 of an instruction of n
abbrev pub instr_traps : ℕ → ℕ → Instr → List (List ℤ)
instr_traps n s instr = trap_clauses n instr.kind instr.targets

-- class 5: the cells where trap outcomes land are free
abbrev pub trap_class : Graph → List (List ℤ)
trap_class g = each_of g.instrs (instr_traps (length g.instrs))

-- the placement clauses
unfoldable pub clauses_of : Graph → List (List ℤ)
clauses_of g = cell_class (length g.instrs) ++ apart_class (length g.instrs) ++ given_class g ++ flow_class g ++ trap_class g
