use Rattle.std.proofs.Common.{◌∙◌, ap, sym, arith, length}
use Rattle.mcu_jumps.specs.declared.kinds.Kind.{Kind}
use Rattle.placement_clauses.specs.Upto.{each_of}
use Rattle.placement_clauses.specs.FirstLabel.{first_real, first_label}
use Rattle.placement_clauses.specs.Clauses.{target_clauses, flow_clauses}
use Rattle.placement_clauses.proofs.EachTest.{flow-test}
use Rattle.placement_clauses.proofs.CountLemmas.{length-goto, length-enable, length-test}
use Rattle.clause_encode.proofs.flows.flow_count.Goals as goal

pub returns-in-Goto-clause-count : goal.returns-in-Goto-clause-count
unfolding flow_clauses
returns-in-Goto-clause-count c = λ n s.
    ap (λ (k : Kind). length (flow_clauses n s k c.args.instr.now.targets)) c.in-Goto.is
    ∙ length-goto n s (first_label c.args.instr.now.targets)

pub returns-in-Strobe-clause-count : goal.returns-in-Strobe-clause-count
unfolding flow_clauses
returns-in-Strobe-clause-count c = λ n s. ap (λ (k : Kind). length (flow_clauses n s k c.args.instr.now.targets)) c.in-Strobe.is

pub returns-in-Enable-clause-count : goal.returns-in-Enable-clause-count
unfolding flow_clauses
returns-in-Enable-clause-count c = λ n s.
    ap (λ (k : Kind). length (flow_clauses n s k c.args.instr.now.targets)) c.in-Enable.is
    ∙ length-enable s (first_label c.args.instr.now.targets)

pub returns-in_default : goal.returns-in_default
returns-in_default c =
    let kind = c.args.instr.now.kind in
    let ts = c.args.instr.now.targets in
    let targets = c.as_slice-targets.ensures in
    let label = c.first_label_of.ensures.label ∙ ap first_label targets in
    let outcome = c.first_label_of.ensures.outcome ∙ ap first_real targets in
    record {
      count = λ n s. ap length (flow-test n s kind ts c.in_default.not-Goto c.in_default.not-Strobe c.in_default.not-Enable)
          ∙ length-test kind s ts (first_real ts) (first_label ts) c.targets_count.result
          (sym (λ i. length (each_of (targets i) (target_clauses kind s (outcome i) (label i)))) ∙ c.targets_count.ensures.count s);
      few = omega (arith, c.targets_count.ensures.few);
    }
