-- Which rows and columns the jumps of a flow statement reach (the jump table of the 3001's data sheet).
use Rattle.std.specs.Prelude.{ℕ, ◌+◌, ◌*◌, ◌/◌, ◌%◌, ◌==◌, ◌&&◌, nat_le, Bool, true, false}
use Rattle.mcu_jumps.specs.declared.kinds.Kind.{Kind}
use Rattle.mcu_jumps.specs.declared.kinds.Kind.TheVariants as kind

-- a jump of the statement reaches row q from row r; for `goto` and `strobe`, whose clauses are others, nothing is said
abbrev pub reaches : Kind → ℕ → ℕ → Bool
reaches kind.Goto r q = false
reaches kind.Strobe r q = false
reaches kind.Enable r q = q / 8 == r / 8
reaches kind.IfF r q = q / 16 == r / 16
reaches kind.IfC r q = q / 8 == r / 8
reaches kind.IfZ r q = q / 8 == r / 8
reaches kind.OnPr r q = q / 8 == r / 8
reaches kind.OnPx r q = q / 4 == r / 4
reaches kind.OnLeft r q = q / 8 == r / 8
reaches kind.OnRight r q = (q / 8 == r / 8) && nat_le 4 (q % 8)

-- the column where outcome o of a test lands, from column c
abbrev pub col_of : Kind → ℕ → ℕ → ℕ
col_of kind.IfF o c = 8 * (c / 8) + 2 + o
col_of kind.IfC o c = 8 * (c / 8) + 2 + o
col_of kind.IfZ o c = 8 * (c / 8) + 2 + o
col_of kind.OnPr o c = o
col_of kind.OnPx o c = o
col_of kind.OnLeft o c = 4 + o
col_of kind.OnRight o c = 12 + o
col_of _ o c = c

-- the test keeps its half of the columns, 0 to 7 or 8 to 15
abbrev pub keeps_half : Kind → Bool
keeps_half kind.IfF = true
keeps_half kind.IfC = true
keeps_half kind.IfZ = true
keeps_half _ = false
