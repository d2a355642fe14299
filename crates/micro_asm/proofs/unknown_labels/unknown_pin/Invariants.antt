use Rattle.std.proofs.Common.{◌≡◌, drop}
use Rattle.std.specs.Prelude.{find, not}
use Rattle.micro_asm.specs.Earlier.{has_label}
use Rattle.micro_asm.proofs.unknown_labels.unknown_pin.Given as goal

abbrev pub invariant-loop-pin : goal.invariant-loop-pin
invariant-loop-pin l =
    find (λ pin. not (has_label l.instrs pin.label)) (drop l.pin-index l.pins) ≡ find (λ pin. not (has_label l.instrs pin.label)) l.pins
