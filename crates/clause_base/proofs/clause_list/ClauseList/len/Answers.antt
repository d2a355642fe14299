use Rattle.std.proofs.Common.{ap, length, arith}
use Rattle.clause_base.proofs.PoolLemmas.{length-pieces}
use Rattle.clause_base.proofs.clause_list.ClauseList.len.Goals as goal

pub returns : goal.returns
returns c =
    let i = c.self.inside in
    omega (
      arith,
      length-pieces i.lits.items (length i.lits.items) i.starts.items c.self.invariant.in_order,
      ap (λ l. length l.clauses) c.self.view_is,
      i.starts.ok,
    )
