use Rattle.std.proofs.Common.{ℕ, ◌<◌, ap, sym, subst, ◌∙◌}
use Rattle.field_decl.specs.Decls.{declaration_of}
use Rattle.bus_script.specs.declared.clock_view.ClockView.{ClockView}
use Rattle.bus_bench.proofs.ClockSteps.{view_pr}
use Rattle.bus_bench.proofs.running.next_trace_line.Goals as goal

pub view_line-requires-clause-latch : goal.view_line-requires-clause-latch
view_line-requires-clause-latch c =
    subst (λ (pr : ℕ). pr < 16)
    (sym (ap (λ (view : ClockView). view.pr) c.step-view.ensures.view
    ∙ view_pr c.args.words.now (declaration_of c.args.decl.now) c.args.bench.now c.at-buses.result)) c.requires.machine.pr
