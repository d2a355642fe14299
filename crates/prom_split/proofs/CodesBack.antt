-- Jumps and flag functions from their bits.
use Rattle.std.proofs.Common.{ℕ, ◌+◌, ◌-◌, ◌/◌, ◌%◌, ◌<◌, ◌≡◌, refl, ap, ap₂, ◌∙◌, arith}
use Rattle.std.proofs.lemmas.Bool.Decides.{nat_tests}
use Rattle.mcu_jumps.specs.declared.codes.Code.{Code}
use Rattle.mcu_jumps.specs.declared.codes.Code.TheVariants.{Jcc}
use Rattle.mcu_jumps.specs.JumpWord.{JumpWord, IsJump, ac_of, first_ac, operand_count}
use Rattle.mcu_chip.specs.declared.flags.FlagIn.{FlagIn}
use Rattle.mcu_chip.specs.declared.flags.FlagIn.TheVariants.{Scz}
use Rattle.mcu_chip.specs.declared.flags.FlagOut.{FlagOut}
use Rattle.mcu_chip.specs.declared.flags.FlagOut.TheVariants.{Ff0}
use Rattle.mcu_chip.specs.declared.flags.FlagCtl.{FlagCtl}
use Rattle.mcu_chip.specs.FlagWord.{fc_of, input_bits, output_bits}
use Rattle.prom_split.specs.Codes.{code_at, jump_at, input_at, output_at, ctl_at}

-- an AC value is below 128
pub ac_below : (code : Code) (operand : ℕ) → operand < operand_count code → first_ac code + operand < 128
ac_below Jcc operand h = omega arith
ac_below _ operand h = omega arith

code_back : (code : Code) (operand : ℕ) → operand < operand_count code → code_at (first_ac code + operand) ≡ code
code_back Jcc operand h = grind (arith, nat_tests)
code_back _ operand h = grind (arith, nat_tests)

abbrev jump_with : Code → ℕ → JumpWord
jump_with code operand = record { code = code; operand = operand }

-- the jump of a jump's AC value
pub jump_back : (jump : JumpWord) → IsJump jump → jump_at (ac_of jump) ≡ jump
jump_back jump h =
    let code : code_at (first_ac jump.code + jump.operand) ≡ jump.code = code_back jump.code jump.operand h in
    let operand : first_ac jump.code + jump.operand - first_ac (code_at (first_ac jump.code + jump.operand)) ≡ jump.operand =
    rw code (omega arith) in
    ap₂ jump_with code operand

input_back : (input : FlagIn) → input_at (input_bits input) ≡ input
input_back Scz = refl
input_back _ = refl

output_back : (output : FlagOut) → output_at (output_bits output) ≡ output
output_back Ff0 = refl
output_back _ = refl

input_below : (input : FlagIn) → input_bits input < 4
input_below Scz = omega arith
input_below _ = omega arith

output_below : (output : FlagOut) → output_bits output < 4
output_below Ff0 = omega arith
output_below _ = omega arith

pub fc_below : (ctl : FlagCtl) → fc_of ctl < 16
fc_below ctl = omega (arith, input_below ctl.input, output_below ctl.output)

abbrev ctl_with : FlagIn → FlagOut → FlagCtl
ctl_with input output = record { input = input; output = output }

-- the flag functions of their bits
pub ctl_back : (ctl : FlagCtl) → ctl_at (fc_of ctl) ≡ ctl
ctl_back ctl =
    let low : fc_of ctl % 4 ≡ input_bits ctl.input = omega (arith, input_below ctl.input) in
    let high : fc_of ctl / 4 ≡ output_bits ctl.output = omega (arith, input_below ctl.input) in
    ap₂ ctl_with (ap input_at low ∙ input_back ctl.input) (ap output_at high ∙ output_back ctl.output)
