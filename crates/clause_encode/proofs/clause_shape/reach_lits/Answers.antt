use Rattle.std.proofs.Common.{◌+◌, ap, sym, ◌∙◌, arith}
use Rattle.std.proofs.lemmas.Grind.{common_steps}
use Rattle.placement_clauses.specs.Number.{minus, plus, row_var}
use Rattle.placement_clauses.proofs.UptoLemmas.{upto-none}
use Rattle.clause_encode.proofs.ReachLemmas.{reach-yes, reach-no}
use Rattle.clause_encode.proofs.clause_shape.reach_lits.Goals.{then-reaches+in_ok-push-2, else-reaches}
use Rattle.clause_encode.proofs.clause_shape.reach_lits.Goals as goal

pub loop-to-init : goal.loop-to-init
loop-to-init c = rw upto-none (grind (arith, common_steps))

pub loop-to-preserved : goal.loop-to-preserved
loop-to-preserved c =
    elim c.if-reaches.branch [
      | then-reaches+in_ok-push-2 w ↦
          reach-yes (minus (row_var c.args.source c.args.row))
          c.args.kind c.args.target c.args.row c.loop-to.to c.loop-to.lits.items c.if-reaches.lits.items w.positive.result
          c.loop-to.invariant (sym c.reaches.ensures ∙ w.if-reaches.true)
          (w.positive.ensures ∙ ap (λ v. plus (v + c.loop-to.to)) c.row_var-first.ensures)
          ((λ i. (w.lits-is i).items) ∙ w.in_ok-push-2.ensures.ok)
      | else-reaches w ↦
          reach-no (minus (row_var c.args.source c.args.row))
          c.args.kind c.args.target c.args.row c.loop-to.to c.loop-to.lits.items c.if-reaches.lits.items c.loop-to.invariant
          (sym c.reaches.ensures ∙ w.if-reaches.false) (λ i. (w.lits-is i).items)
    ]
