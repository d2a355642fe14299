-- The flag step: flags, latch and outputs of the 3001 in one clock. The rules are the data sheet's; the order of
-- events and the PR outputs under JCE are this project's own choice.
use Rattle.std.specs.Prelude.{ℕ, ◌%◌, ◌==◌, Bool, true, false, Option, Some, None}
use Rattle.mcu_jumps.specs.declared.codes.Code.{Code}
use Rattle.mcu_jumps.specs.declared.codes.Code.TheVariants as code
use Rattle.mcu_jumps.specs.Readings.{Readings}
use Rattle.mcu_chip.specs.declared.flags.FlagIn.{FlagIn}
use Rattle.mcu_chip.specs.declared.flags.FlagIn.TheVariants as input
use Rattle.mcu_chip.specs.declared.flags.FlagOut.{FlagOut}
use Rattle.mcu_chip.specs.declared.flags.FlagOut.TheVariants as output
use Rattle.mcu_chip.specs.ChipState.{ChipState}

-- FO, from C and Z as the clock begins (data sheet)
abbrev pub flag_out : FlagOut → Bool → Bool → Bool
flag_out output.Ff0 c z = false
flag_out output.Ffc c z = c
flag_out output.Ffz c z = z
flag_out output.Ff1 c z = true

-- what the jump tests: F is this clock's flag input, C, Z and the latch are as the clock begins (this project's order)
abbrev pub readings_of : ChipState → Bool → ℕ → Readings
readings_of s fi px = record { f = fi; c = s.c; z = s.z; pr = s.pr; px = px }

-- C after the clock, from C before it and the flag input (data sheet)
abbrev pub next_c : FlagIn → Bool → Bool → Bool
next_c input.Scz c fi = fi
next_c input.Stz c fi = c
next_c input.Stc c fi = fi
next_c input.Hcz c fi = c

-- Z after the clock, from Z before it and the flag input (data sheet)
abbrev pub next_z : FlagIn → Bool → Bool → Bool
next_z input.Scz z fi = fi
next_z input.Stz z fi = fi
next_z input.Stc z fi = z
next_z input.Hcz z fi = z

-- the PR latch after the clock: JPX loads it from SX3..SX0 (data sheet)
abbrev pub next_pr : Code → ℕ → ℕ → ℕ
next_pr code.Jpx pr sx = sx
next_pr _ pr sx = pr

-- JZR with operand 15, and no other jump, gives the interrupt strobe (data sheet)
abbrev pub is_strobe : Code → ℕ → Bool
is_strobe code.Jzr d = d == 15
is_strobe _ d = false

-- JCE, and no other jump, shows PR2..PR0 of the latch as the clock begins (this project's choice)
abbrev pub pr_shown : Code → ℕ → Option ℕ
pr_shown code.Jce pr = Some (pr % 8)
pr_shown _ pr = None
