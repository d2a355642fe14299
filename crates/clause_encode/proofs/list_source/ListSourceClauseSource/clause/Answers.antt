use Rattle.std.proofs.Common.{◌<◌, ◌^◌, ◌-◌, ℤ, List, length}
use Rattle.clause_encode.proofs.ShortLemmas.{All-at}
use Rattle.clause_encode.proofs.list_source.ListSourceClauseSource.clause.Goals as goal

pub returns-clause-short : goal.returns-clause-short
returns-clause-short c =
    let list = c.args.self.now.list.now in
    rw c.in_ok-clause.ensures.ok
    (All-at (λ (clause : List ℤ). length clause < 2 ^ 32) list.clauses (c.args.number - 1) c.get.result.now
    c.args.self.now.givable.short c.get.ensures.clause)
