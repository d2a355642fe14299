use Rattle.std.proofs.Common.{ℕ, ◌≡◌, ap, ◌∙◌}
use Rattle.mcu_chip.specs.FlagStep.{next_pr, pr_shown}
use Rattle.mcu_chip.specs.declared.chip.McuOut.{McuOut}
use Rattle.field_decl.specs.Decls.{declaration_of}
use Rattle.flow_sim.specs.Machine.{Machine}
use Rattle.bus_bench.proofs.ClockSteps.{machine_after, view_after}
use Rattle.bus_bench.proofs.bench.clock_on.Goals as goal

pub returns-clause-machine : goal.returns-clause-machine
returns-clause-machine c =
    let latch : c.machine.inside.pr ≡ c.args.machine.now.pr = ap (λ (m : Machine). m.pr) c.machine.view_is in
    machine_after (declaration_of c.args.decl.now) c.args.parts c.args.cell c.args.machine.now c.args.buses.now _ _ _ _ _
    c.order_by-order.ensures.order c.array_answer-answer.ensures.registers c.array_answer-answer.ensures.fi
    (ap (λ (out : McuOut). out.mcu.pr) c.out.view_is ∙ c.step-out.ensures.pr
    ∙ ap (λ (pr : ℕ). next_pr c.args.parts.jump.code pr c.args.buses.now.sx) latch) c.end_clock.ensures.after

pub returns-clause-view : goal.returns-clause-view
returns-clause-view c =
    let latch : c.machine.inside.pr ≡ c.args.machine.now.pr = ap (λ (m : Machine). m.pr) c.machine.view_is in
    view_after (declaration_of c.args.decl.now) c.args.parts c.args.cell c.args.machine.now c.args.buses.now _ _ _ _ _
    c.order_by-order.ensures.order c.array_answer-answer.ensures.links
    (ap (λ (out : McuOut). out.ise) c.out.view_is ∙ c.step-out.ensures.ise)
    (ap (λ (out : McuOut). out.pr_out) c.out.view_is ∙ c.step-out.ensures.pr_out
    ∙ ap (λ (pr : ℕ). pr_shown c.args.parts.jump.code pr) latch) c.view-view.ensures
