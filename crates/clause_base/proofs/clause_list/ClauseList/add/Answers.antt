use Rattle.std.proofs.Common.{◌≡◌, ◌^◌, ◌<◌, ap, length, arith}
use Rattle.clause_base.specs.Clauses.{Clauses, IsClause}
use Rattle.clause_base.proofs.PoolLemmas.{length-pieces, ArePool-push, pieces-push}
use Rattle.clause_base.proofs.clause_list.ClauseList.add.Goals as goal

pub invariant_of-self : goal.invariant_of-self
invariant_of-self c = rw c.in_err-reserve.ensures.items c.self.invariant

pub invariant_of-self-in_err-extend_from_slice : goal.invariant_of-self-in_err-extend_from_slice
invariant_of-self-in_err-extend_from_slice c = rw (c.in_err-extend_from_slice.ensures.items, c.reserve.ensures.items) c.self.invariant

pub invariant_of-self-2 : goal.invariant_of-self-2
invariant_of-self-2 c =
    let i = c.self.inside in
    let len : c.len.result ≡ length i.lits.items = omega (arith, c.len.ensures, i.lits.ok) in
    let few : length i.starts.items < 2 ^ 32 =
    omega (
      arith,
      length-pieces i.lits.items (length i.lits.items) i.starts.items c.self.invariant.in_order,
      ap (λ l. length l.clauses) c.self.view_is,
      c.requires.few,
    ) in
    let valid : IsClause i.vars c.args.clause.now = rw (ap (λ l. l.vars) c.self.view_is) c.requires.valid in
    rw (c.in_ok-extend_from_slice.ensures.items, c.push_reserved.ensures.items, c.reserve.ensures.items, len)
    (ArePool-push i.vars i.lits.items i.starts.items c.args.clause.now c.self.invariant valid few)

pub returns-clause-ok : goal.returns-clause-ok
returns-clause-ok c =
    let i = c.self.inside in
    let len : c.len.result ≡ length i.lits.items = omega (arith, c.len.ensures, i.lits.ok) in
    rw (c.in_ok-extend_from_slice.ensures.items, c.push_reserved.ensures.items, c.reserve.ensures.items, len, ← c.self.view_is)
    (ap (λ cs. let l : Clauses = record { vars = i.vars; clauses = cs } in l)
    (pieces-push i.lits.items c.args.clause.now i.starts.items c.self.invariant.in_order))
