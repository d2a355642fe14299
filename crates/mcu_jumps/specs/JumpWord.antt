-- A jump code with its operand, and the AC value of both (the 3001's data sheet).
use Rattle.std.specs.Prelude.{ℕ, ◌+◌, ◌<◌}
use Rattle.mcu_jumps.specs.declared.codes.Code.{Code}
use Rattle.mcu_jumps.specs.declared.codes.Code.TheVariants as code

-- a code and an operand
pub record JumpWord : Type 0 where
  pub code : Code
  pub operand : ℕ

-- the AC value of a code with operand 0 (data sheet)
abbrev pub first_ac : Code → ℕ
first_ac code.Jcc = 0x00
first_ac code.Jzr = 0x20
first_ac code.Jcr = 0x30
first_ac code.Jfl = 0x40
first_ac code.Jcf = 0x50
first_ac code.Jzf = 0x58
first_ac code.Jpr = 0x60
first_ac code.Jll = 0x68
first_ac code.Jce = 0x70
first_ac code.Jpx = 0x78
first_ac code.Jrl = 0x7c

-- how many operands a code has (data sheet)
abbrev pub operand_count : Code → ℕ
operand_count code.Jcc = 32
operand_count code.Jzr = 16
operand_count code.Jcr = 16
operand_count code.Jfl = 16
operand_count code.Jcf = 8
operand_count code.Jzf = 8
operand_count code.Jpr = 8
operand_count code.Jll = 8
operand_count code.Jce = 8
operand_count code.Jpx = 4
operand_count code.Jrl = 4

-- the operand is in the code's range
abbrev pub IsJump : JumpWord → Type 0
IsJump j = j.operand < operand_count j.code

-- the seven bits AC6..AC0 as a number (data sheet)
abbrev pub ac_of : JumpWord → ℕ
ac_of j = first_ac j.code + j.operand
