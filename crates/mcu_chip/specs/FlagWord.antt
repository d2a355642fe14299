-- The four FC bits of the flag functions. Their values are this project's own choice.
use Rattle.std.specs.Prelude.{ℕ, ◌+◌, ◌*◌}
use Rattle.mcu_chip.specs.declared.flags.FlagIn.{FlagIn}
use Rattle.mcu_chip.specs.declared.flags.FlagIn.TheVariants as input
use Rattle.mcu_chip.specs.declared.flags.FlagOut.{FlagOut}
use Rattle.mcu_chip.specs.declared.flags.FlagOut.TheVariants as output
use Rattle.mcu_chip.specs.declared.flags.FlagCtl.{FlagCtl}

-- FC1 FC0 of a flag input function (this project's choice)
abbrev pub input_bits : FlagIn → ℕ
input_bits input.Scz = 0
input_bits input.Stz = 1
input_bits input.Stc = 2
input_bits input.Hcz = 3

-- FC3 FC2 of a flag output function (this project's choice)
abbrev pub output_bits : FlagOut → ℕ
output_bits output.Ff0 = 0
output_bits output.Ffc = 1
output_bits output.Ffz = 2
output_bits output.Ff1 = 3

-- FC3..FC0 as a number
abbrev pub fc_of : FlagCtl → ℕ
fc_of ctl = 4 * output_bits ctl.output + input_bits ctl.input
