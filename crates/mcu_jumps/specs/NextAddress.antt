-- The next address: the jump table of the 3001's data sheet. The row group of JCE is this project's own choice.
use Rattle.std.specs.Prelude.{ℕ, ◌+◌, ◌*◌, ◌/◌, ◌%◌, Bool, true, false}
use Rattle.mcu_jumps.specs.declared.codes.Code.{Code}
use Rattle.mcu_jumps.specs.declared.codes.Code.TheVariants as code
use Rattle.mcu_jumps.specs.Position.{Position}
use Rattle.mcu_jumps.specs.JumpWord.{JumpWord}
use Rattle.mcu_jumps.specs.Readings.{Readings}

-- a flag as a number
abbrev pub bit : Bool → ℕ
bit false = 0
bit true = 1

-- the row that a code with operand d leads to, from row r (data sheet; the row group of JCE is this project's choice)
abbrev pub row_after : Code → ℕ → ℕ → ℕ
row_after code.Jcc r d = d
row_after code.Jzr r d = 0
row_after code.Jcr r d = r
row_after code.Jfl r d = 16 * (r / 16) + d
row_after code.Jcf r d = 8 * (r / 8) + d
row_after code.Jzf r d = 8 * (r / 8) + d
row_after code.Jpr r d = 8 * (r / 8) + d
row_after code.Jll r d = 8 * (r / 8) + d
row_after code.Jce r d = 8 * (r / 8) + d
row_after code.Jpx r d = 4 * (r / 4) + d
row_after code.Jrl r d = 8 * (r / 8) + 4 + d

-- the column that a code with operand d leads to, from column c, where the tested value is v (data sheet)
abbrev pub col_after : Code → ℕ → ℕ → ℕ → ℕ
col_after code.Jcc c d v = c
col_after code.Jzr c d v = d
col_after code.Jcr c d v = d
col_after code.Jfl c d v = 8 * (c / 8) + 2 + v
col_after code.Jcf c d v = 8 * (c / 8) + 2 + v
col_after code.Jzf c d v = 8 * (c / 8) + 2 + v
col_after code.Jpr c d v = v
col_after code.Jll c d v = 4 + v
col_after code.Jce c d v = c
col_after code.Jpx c d v = v
col_after code.Jrl c d v = 12 + v

-- the value that a code tests, 0 where it tests none (data sheet)
abbrev pub tested : Code → Readings → ℕ
tested code.Jcc t = 0
tested code.Jzr t = 0
tested code.Jcr t = 0
tested code.Jfl t = bit t.f
tested code.Jcf t = bit t.c
tested code.Jzf t = bit t.z
tested code.Jpr t = t.pr
tested code.Jll t = t.pr / 4
tested code.Jce t = 0
tested code.Jpx t = t.px
tested code.Jrl t = t.pr % 4

-- how many values the tested value has: 0 up to below this
abbrev pub outcome_count : Code → ℕ
outcome_count code.Jcc = 1
outcome_count code.Jzr = 1
outcome_count code.Jcr = 1
outcome_count code.Jfl = 2
outcome_count code.Jcf = 2
outcome_count code.Jzf = 2
outcome_count code.Jpr = 16
outcome_count code.Jll = 4
outcome_count code.Jce = 1
outcome_count code.Jpx = 16
outcome_count code.Jrl = 4

-- the landing: the cell that a jump leads to where the tested value is v
abbrev pub lands : Position → JumpWord → ℕ → Position
lands from j v = record { row = row_after j.code from.row j.operand; col = col_after j.code from.col j.operand v }

-- the cell that a jump leads to
abbrev pub next_of : Position → JumpWord → Readings → Position
next_of from j t = lands from j (tested j.code t)
