use Rattle.std.proofs.Common.{◌≡◌, take}
use Rattle.std.specs.Prelude.{map}
use Rattle.micro_asm.specs.Source.{pin_of}
use Rattle.micro_asm.proofs.finishing.pins_of.Given as goal

abbrev pub invariant-loop-pin : goal.invariant-loop-pin
invariant-loop-pin l = l.pins.items ≡ map (pin_of l.instrs) (take l.pin-index l.lines)
