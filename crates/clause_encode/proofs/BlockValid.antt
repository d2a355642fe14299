-- Each clause of a block is one over the variables of the program.
use Rattle.std.proofs.Common.{◌≡◌, ℕ, ℤ, ◌+◌, ◌*◌, ◌<◌, ◌≤◌, List, ◌++◌, length, Some, refl, subst, arith}
use Rattle.std.specs.Prelude.{slice_get}
use Rattle.std.specs.List.{All}
use Rattle.std.proofs.lemmas.List.Elements.{All-append}
use Rattle.std.proofs.lemmas.Option.{slice_get_within, get_or_from_slice_get}
use Rattle.mcu_jumps.specs.Landing.{outcomes_of}
use Rattle.mcu_jumps.specs.declared.kinds.Kind.{Kind}
use Rattle.mcu_jumps.specs.declared.kinds.Kind.TheVariants as kind
use Rattle.clause_base.specs.Clauses.{IsClause}
use Rattle.flow_graph.specs.declared.instructions.Instr.{Instr}
use Rattle.flow_graph.specs.declared.programs.Program.{Program}
use Rattle.flow_graph.specs.Graph.{Graph, graph_of}
use Rattle.flow_graph.specs.Valid.{IsInstr}
use Rattle.placement_clauses.specs.Number.{var_count_of, pairs_below}
use Rattle.placement_clauses.specs.FirstLabel.{first_real, first_label}
use Rattle.placement_clauses.specs.PinCells.{HavePinCells}
use Rattle.placement_clauses.specs.Upto.{upto, at_place, each_of}
use Rattle.placement_clauses.specs.Clauses.{cell_clauses, cell_class, apart_clauses, apart_from_earlier, apart_class, at_clauses, pin_clauses, bound_clauses, given_class, test_clauses, flow_clauses, instr_clauses, flow_class, instr_traps, trap_class, clauses_of}
use Rattle.placement_clauses.proofs.UptoLemmas.{All-upto}
use Rattle.placement_clauses.proofs.FirstReal.{first-there}
use Rattle.clause_encode.specs.declared.blocks.Block.{Block}
use Rattle.clause_encode.specs.declared.blocks.Block.TheVariants.{Cell, Apart, At, Bound, Flow, Traps}
use Rattle.clause_encode.specs.Blocks.{block_clauses, IsBlock}
use Rattle.clause_encode.proofs.ValidLemmas.{are_upto, are_at_place}
use Rattle.clause_encode.proofs.ClassValid.{cells_valid, apart_valid, at_valid, bound_valid, goto_valid, enable_valid, test_valid}
use Rattle.clause_encode.proofs.TrapValid.{differ_in, traps_valid}

-- the variables of the cells of so many labels are there
room_of : (n i : ℕ) → i < n → 48 * i + 48 ≤ var_count_of n
room_of n i lt = least (pairs_below n)
  where
    least : (p : ℕ) → 48 * i + 48 ≤ 48 * n + p + 3 * n
    least p = omega arith

-- the jump of an instruction
flow_valid : (n s : ℕ) (k : Kind) (instr : Instr) → s < n → IsInstr n instr → instr.kind ≡ k
    → All (IsClause (var_count_of n)) (flow_clauses n s k instr.targets)
unfolding flow_clauses
flow_valid n s k instr s_in valid is = by k is
  where
    there : slice_get instr.targets (first_real instr.targets) ≡ Some (Some (first_label instr.targets))
    there = first-there instr.targets valid.some_label

    x_in : first_label instr.targets < n
    x_in = valid.targets_in_range (first_real instr.targets) (first_label instr.targets) there

    ways : (p : ℕ) → s < n → 48 * n + p + 3 * s + 2 + 1 ≤ 48 * n + p + 3 * n
    ways p lt = omega arith

    test : (k : Kind) → instr.kind ≡ k
        → All (IsClause (var_count_of n)) (test_clauses k s instr.targets (first_real instr.targets) (first_label instr.targets))
    test k is = test_valid (var_count_of n) k s instr.targets (first_real instr.targets) (first_label instr.targets)
        (subst (λ (k : Kind). length instr.targets ≡ outcomes_of k) is valid.target_for_each_outcome) (room_of n s s_in)
        (room_of n (first_label instr.targets) x_in)
        (λ o y at. room_of n y (valid.targets_in_range o y at))

    by : (k : Kind) → instr.kind ≡ k → All (IsClause (var_count_of n)) (flow_clauses n s k instr.targets)
    by kind.Goto is = goto_valid (var_count_of n) n s (first_label instr.targets) s_in x_in (ways (pairs_below n) s_in)
    by kind.Strobe is = at_valid (var_count_of n) (first_label instr.targets) 0 15 (room_of n (first_label instr.targets) x_in)
        (omega arith) (omega arith)
    by kind.Enable is = enable_valid (var_count_of n) s (first_label instr.targets) (room_of n s s_in)
        (room_of n (first_label instr.targets) x_in)
    by kind.IfF is = test kind.IfF is
    by kind.IfC is = test kind.IfC is
    by kind.IfZ is = test kind.IfZ is
    by kind.OnPr is = test kind.OnPr is
    by kind.OnPx is = test kind.OnPx is
    by kind.OnLeft is = test kind.OnLeft is
    by kind.OnRight is = test kind.OnRight is

-- the trap outcomes of an instruction
instr_traps_valid : (n : ℕ) (instr : Instr) → IsInstr n instr → All (IsClause (var_count_of n)) (instr_traps n 0 instr)
instr_traps_valid n instr valid =
    let there = first-there instr.targets valid.some_label in
    let within = slice_get_within instr.targets (first_real instr.targets) (Some (first_label instr.targets)) there in
    traps_valid n instr.kind instr.targets valid.target_for_each_outcome
    (valid.targets_in_range (first_real instr.targets) (first_label instr.targets) there)
    (omega (arith, within, valid.target_for_each_outcome))

-- each clause of a block
pub blocks_valid : (program : Program) (block : Block) → IsBlock (graph_of program) block
    → All (IsClause (var_count_of (length program.instrs))) (block_clauses (graph_of program) block)
blocks_valid program (Cell label) is = cells_valid (var_count_of (length program.instrs)) label (room_of (length program.instrs) label is)
blocks_valid program (Apart label) is =
    are_upto (var_count_of (length program.instrs)) label (apart_clauses (length program.instrs) label) (λ i i_in.
    apart_valid (var_count_of (length program.instrs)) (length program.instrs) label i i_in (omega arith)
    (differ_in (length program.instrs) i label i_in is))
blocks_valid program (At label row col) is =
    at_valid (var_count_of (length program.instrs)) label row col (room_of (length program.instrs) label is.0) is.1 is.2
blocks_valid program (Bound label) is =
    bound_valid (var_count_of (length program.instrs)) program.rows label (room_of (length program.instrs) label is)
blocks_valid program (Flow label) is =
    are_at_place (var_count_of (length program.instrs)) program.instrs (instr_clauses (length program.instrs)) label (λ instr at.
    flow_valid (length program.instrs) label instr.kind instr is (program.valid.each_instr label instr at) refl)
blocks_valid program (Traps label) is =
    are_at_place (var_count_of (length program.instrs)) program.instrs (instr_traps (length program.instrs)) label (λ instr at.
    instr_traps_valid (length program.instrs) instr (program.valid.each_instr label instr at))

-- the clause at a place of a block
pub block_valid : (program : Program) (block : Block) (k : ℕ) (c : List ℤ) → IsBlock (graph_of program) block
    → slice_get (block_clauses (graph_of program) block) k ≡ Some c → IsClause (var_count_of (length program.instrs)) c
block_valid program block k c is there =
    subst (IsClause (var_count_of (length program.instrs))) (get_or_from_slice_get (block_clauses (graph_of program) block) k c c there)
    (blocks_valid program block is k c (slice_get_within (block_clauses (graph_of program) block) k c there))

-- each clause of a program
pub program_valid : (program : Program) → HavePinCells program.pins
    → All (IsClause (var_count_of (length program.instrs))) (clauses_of (graph_of program))
unfolding clauses_of
program_valid program cells =
    let n = length program.instrs in
    let P : List ℤ → Type 0 = IsClause (var_count_of n) in
    All-append P (cell_class n ++ apart_class n ++ given_class g ++ flow_class g) (trap_class g)
    (All-append P (cell_class n ++ apart_class n ++ given_class g) (flow_class g)
    (All-append P (cell_class n ++ apart_class n) (given_class g)
    (All-append P (cell_class n) (apart_class n)
    (All-upto P n cell_clauses (λ i i_in. blocks_valid program (Cell i) i_in))
    (All-upto P n (apart_from_earlier n) (λ j j_in. blocks_valid program (Apart j) j_in)))
    givens)
    (All-upto P n (at_place program.instrs (instr_clauses n)) (λ s s_in. blocks_valid program (Flow s) s_in)))
    (All-upto P n (at_place program.instrs (instr_traps n)) (λ s s_in. blocks_valid program (Traps s) s_in))
  where
    g : Graph
    g = graph_of program

    pins : (k : ℕ) → k < length program.pins → All (IsClause (var_count_of (length program.instrs))) (at_place program.pins pin_clauses k)
    pins k k_in = are_at_place (var_count_of (length program.instrs)) program.pins pin_clauses k (λ pin at.
        let cell = cells k pin at in
        blocks_valid program (At pin.label pin.cell.row pin.cell.col) (program.valid.pins_in_range k pin at, cell.row, cell.col))

    givens : All (IsClause (var_count_of (length program.instrs))) (given_class g)
    givens =
        let P : List ℤ → Type 0 = IsClause (var_count_of (length program.instrs)) in
        All-append P (each_of program.pins pin_clauses ++ at_clauses program.start 0 0)
        (upto (length program.instrs) (bound_clauses program.rows))
        (All-append P (each_of program.pins pin_clauses) (at_clauses program.start 0 0)
        (All-upto P (length program.pins) (at_place program.pins pin_clauses) pins)
        (blocks_valid program (At program.start 0 0) (program.valid.start_in_range, omega arith, omega arith)))
        (All-upto P (length program.instrs) (bound_clauses program.rows) (λ i i_in. blocks_valid program (Bound i) i_in))
