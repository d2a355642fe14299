-- The jump of seven AC bits (data sheet) and the flag functions of four FC bits (this project's own choice).
use Rattle.std.specs.Prelude.{ℕ, ◌-◌, ◌/◌, ◌%◌, ◌==◌, nat_lt, if◌then◌else◌}
use Rattle.mcu_jumps.specs.declared.codes.Code.{Code}
use Rattle.mcu_jumps.specs.declared.codes.Code.TheVariants.{Jcc, Jzr, Jcr, Jfl, Jcf, Jzf, Jpr, Jll, Jce, Jpx, Jrl}
use Rattle.mcu_jumps.specs.JumpWord.{JumpWord, first_ac}
use Rattle.mcu_chip.specs.declared.flags.FlagIn.{FlagIn}
use Rattle.mcu_chip.specs.declared.flags.FlagIn.TheVariants.{Scz, Stz, Stc, Hcz}
use Rattle.mcu_chip.specs.declared.flags.FlagOut.{FlagOut}
use Rattle.mcu_chip.specs.declared.flags.FlagOut.TheVariants.{Ff0, Ffc, Ffz, Ff1}
use Rattle.mcu_chip.specs.declared.flags.FlagCtl.{FlagCtl}

-- the code of an AC value below 128: the last whose first AC value is not above it (data sheet)
abbrev pub code_at : ℕ → Code
code_at ac =
    if nat_lt ac 0x20 then Jcc
    else if nat_lt ac 0x30 then Jzr
    else if nat_lt ac 0x40 then Jcr
    else if nat_lt ac 0x50 then Jfl
    else if nat_lt ac 0x58 then Jcf
    else if nat_lt ac 0x60 then Jzf
    else if nat_lt ac 0x68 then Jpr
    else if nat_lt ac 0x70 then Jll
    else if nat_lt ac 0x78 then Jce
    else if nat_lt ac 0x7c then Jpx
    else Jrl

-- the jump of an AC value below 128 (data sheet)
abbrev pub jump_at : ℕ → JumpWord
jump_at ac = record { code = code_at ac; operand = ac - first_ac (code_at ac) }

-- the flag input function of FC1 FC0 (this project's choice)
abbrev pub input_at : ℕ → FlagIn
input_at bits = if bits == 0 then Scz else if bits == 1 then Stz else if bits == 2 then Stc else Hcz

-- the flag output function of FC3 FC2 (this project's choice)
abbrev pub output_at : ℕ → FlagOut
output_at bits = if bits == 0 then Ff0 else if bits == 1 then Ffc else if bits == 2 then Ffz else Ff1

-- the flag functions of FC3..FC0, a number below 16
abbrev pub ctl_at : ℕ → FlagCtl
ctl_at fc = record { input = input_at (fc % 4); output = output_at (fc / 4) }
