use Rattle.std.proofs.Common.{◌-◌, ◌<◌, ap, sym, ◌∙◌, length, arith}
use Rattle.std.specs.Prelude.{slice_get}
use Rattle.clause_base.specs.Pool.{pieces}
use Rattle.clause_base.proofs.PoolLemmas.{piece-facts, clause-valid}
use Rattle.clause_base.proofs.clause_list.ClauseList.get.Goals as goal

pub piece-requires : goal.piece-requires
piece-requires c =
    let i = c.self.inside in
    let n = c.args.number - 1 in
    let lt : n < length (pieces i.lits.items i.starts.items) =
    omega (arith, ap (λ l. length l.clauses) c.self.view_is, c.requires.0, c.requires.1) in
    let f = piece-facts i.lits.items i.starts.items n c.self.invariant.in_order lt in
    rw (c.deref.ensures.value, c.deref-2.ensures.value) (record { within = f.within; ordered = f.ordered; ends = f.ends })

pub returns-clause-clause : goal.returns-clause-clause
returns-clause-clause c =
    let i = c.self.inside in
    let n = c.args.number - 1 in
    let lt : n < length (pieces i.lits.items i.starts.items) =
    omega (arith, ap (λ l. length l.clauses) c.self.view_is, c.requires.0, c.requires.1) in
    let f = piece-facts i.lits.items i.starts.items n c.self.invariant.in_order lt in
    rw c.piece.ensures (rw (c.deref.ensures.value, c.deref-2.ensures.value)
    (ap (λ l. slice_get l.clauses n) (sym c.self.view_is) ∙ f.there))

pub returns-clause-valid : goal.returns-clause-valid
returns-clause-valid c =
    let i = c.self.inside in
    let n = c.args.number - 1 in
    let lt : n < length (pieces i.lits.items i.starts.items) =
    omega (arith, ap (λ l. length l.clauses) c.self.view_is, c.requires.0, c.requires.1) in
    let f = piece-facts i.lits.items i.starts.items n c.self.invariant.in_order lt in
    rw (c.piece.ensures, c.deref.ensures.value, c.deref-2.ensures.value, ← c.self.view_is)
    (clause-valid i.vars i.lits.items i.starts.items n _ c.self.invariant.valid lt f.there)
