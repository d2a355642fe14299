-- A saved refutation is short, since a source has at most 128 instructions.
use Rattle.std.proofs.Common.{ℕ, ◌≡◌, ◌≤◌, ◌<◌, ◌+◌, ◌-◌, ◌*◌, ◌^◌, List, length, Ok, arith}
use Rattle.std.proofs.lemmas.Nat.{mul-le}
use Rattle.flow_graph.specs.Graph.{Graph}
use Rattle.micro_asm.specs.Source.{source_of}
use Rattle.micro_asm.proofs.FewInstrs.{few_instrs}
use Rattle.placement_clauses.specs.Number.{var_count_of}
use Rattle.micro_cli.specs.declared.command_words.TheConstants.{CONFLICT_LIMIT}

few_vars : (n : ℕ) → n ≤ 128 → var_count_of n ≤ 14656
few_vars n few =
    let pairs : n * (n - 1) ≤ 128 * 127 = mul-le n (n - 1) 128 127 few (omega arith) in
    omega (arith, pairs, few)

pub short_refutation : (source : List ℕ) (g : Graph) (lines conflicts size : ℕ) → source_of source ≡ Ok g → lines ≤ conflicts + 1
    → size ≤ lines * (12 * var_count_of (length g.instrs) + 27)
    → conflicts ≤ CONFLICT_LIMIT → size < 2 ^ 39
short_refutation source g lines conflicts size meant few bound budget =
    let vars : var_count_of (length g.instrs) ≤ 14656 = few_vars (length g.instrs) (few_instrs source g meant) in
    let most : lines * (12 * var_count_of (length g.instrs) + 27) ≤ 1000001 * 175899 =
    mul-le lines (12 * var_count_of (length g.instrs) + 27) 1000001 175899 (omega (arith, few, budget)) (omega (arith, vars)) in
    omega (arith, bound, most)
