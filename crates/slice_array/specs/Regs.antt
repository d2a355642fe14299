-- The registers of an array as the program hands them over.
use Rattle.slice_array.specs.declared.regs.Regs.{Regs}
use Rattle.cpe_slice.specs.Registers.{Registers}

-- the same thirteen words
abbrev pub registers_of : Regs → Registers
registers_of regs = record { r = regs.r; t = regs.t; ac = regs.ac; mar = regs.mar }
