use Rattle.std.proofs.Common.{◌∙◌, ap, sym, length}
use Rattle.cpe_slice.specs.WordStep.{bit, StepOutcome}
use Rattle.slice_array.specs.Whole.{whole}
use Rattle.slice_array.proofs.UnusedLines.{array_step_li, array_step_ci}
use Rattle.slice_array.proofs.wiring.step_slices.Goals as goal

pub returns-then-is_shift-clause-registers : goal.returns-then-is_shift-clause-registers
returns-then-is_shift-clause-registers c =
    c.shift.ensures.registers
    ∙ ap (λ (o : StepOutcome). o.registers)
    (array_step_ci (length c.args.slices.now) c.args.f c.args.k c.args.m c.args.i (bit c.args.fo) 0 (bit c.args.fo)
    (whole c.args.slices.now) (sym c.if-is_shift.ensures))

pub returns-then-is_shift-clause-links : goal.returns-then-is_shift-clause-links
returns-then-is_shift-clause-links c =
    c.shift.ensures.links
    ∙ ap (λ (o : StepOutcome). o.links)
    (array_step_ci (length c.args.slices.now) c.args.f c.args.k c.args.m c.args.i (bit c.args.fo) 0 (bit c.args.fo)
    (whole c.args.slices.now) (sym c.if-is_shift.ensures))

pub returns-then-is_shift-clause-fi : goal.returns-then-is_shift-clause-fi
returns-then-is_shift-clause-fi c =
    c.shift.ensures.fi ∙ ap (λ (o : StepOutcome). o.fi)
    (array_step_ci (length c.args.slices.now) c.args.f c.args.k c.args.m c.args.i (bit c.args.fo) 0 (bit c.args.fo)
    (whole c.args.slices.now) (sym c.if-is_shift.ensures))

pub returns-else-is_shift-clause-registers : goal.returns-else-is_shift-clause-registers
returns-else-is_shift-clause-registers c =
    c.ripple.ensures.registers
    ∙ ap (λ (o : StepOutcome). o.registers)
    (array_step_li (length c.args.slices.now) c.args.f c.args.k c.args.m c.args.i (bit c.args.fo) 0 (bit c.args.fo)
    (whole c.args.slices.now) (sym c.if-is_shift.ensures))

pub returns-else-is_shift-clause-links : goal.returns-else-is_shift-clause-links
returns-else-is_shift-clause-links c =
    c.ripple.ensures.links
    ∙ ap (λ (o : StepOutcome). o.links)
    (array_step_li (length c.args.slices.now) c.args.f c.args.k c.args.m c.args.i (bit c.args.fo) 0 (bit c.args.fo)
    (whole c.args.slices.now) (sym c.if-is_shift.ensures))

pub returns-else-is_shift-clause-fi : goal.returns-else-is_shift-clause-fi
returns-else-is_shift-clause-fi c =
    c.ripple.ensures.fi ∙ ap (λ (o : StepOutcome). o.fi)
    (array_step_li (length c.args.slices.now) c.args.f c.args.k c.args.m c.args.i (bit c.args.fo) 0 (bit c.args.fo)
    (whole c.args.slices.now) (sym c.if-is_shift.ensures))
