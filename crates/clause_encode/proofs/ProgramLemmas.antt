-- The clauses of a program may be given.
use Rattle.std.proofs.Common.{ℕ, ◌-◌, ◌*◌, ◌<◌, ◌≤◌, ◌^◌, length, arith}
use Rattle.std.proofs.Math.Nat.{mul-le-mul}
use Rattle.flow_graph.specs.Graph.{graph_of}
use Rattle.flow_graph.specs.declared.programs.Program.{Program}
use Rattle.placement_clauses.specs.Number.{var_count_of}
use Rattle.placement_clauses.specs.PinCells.{HavePinCells}
use Rattle.clause_encode.specs.Given.{AreGivable}
use Rattle.clause_encode.specs.PlacementList.{list_of}
use Rattle.clause_encode.proofs.BlockValid.{program_valid}
use Rattle.clause_encode.proofs.ShortLemmas.{all-short}

-- 512 labels have fewer than 2^31 variables
pub few_vars : (n : ℕ) → n ≤ 512 → var_count_of n < 2 ^ 31
few_vars n le =
    let less : n - 1 ≤ 511 = omega arith in
    let most : n * (n - 1) ≤ 512 * 511 = mul-le-mul le less in
    omega (arith, most)

-- each clause is valid and short
pub program_givable : (program : Program) → HavePinCells program.pins → AreGivable (list_of (graph_of program))
program_givable program cells =
    let g = graph_of program in
    let valid = program_valid program cells in
    record {
      valid = valid;
      short = all-short (var_count_of (length g.instrs)) (list_of g).clauses (few_vars (length g.instrs) program.valid.cells_for_all)
          valid;
    }
