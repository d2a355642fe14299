-- The function code F6..F0 of the 3002, a number below 128, after Intel's data sheet.
use Rattle.std.specs.Prelude.{ℕ, Bool, ◌/◌, ◌%◌, ◌==◌, ◌&&◌, ◌≡◌, ◌<◌, ◌≤◌, nat_lt, if◌then◌else◌}
use Rattle.cpe_slice.specs.declared.register.Reg.{Reg}
use Rattle.cpe_slice.specs.declared.register.Reg.TheVariants.{R, T, Ac}

-- F6..F4: the function, 0 to 7
abbrev pub function_of : ℕ → ℕ
function_of code = code / 16

-- F3..F0: 0 to 9, 12 and 13 are group 1, 10 and 11 group 2, 14 and 15 group 3
abbrev pub group_of_selector : ℕ → ℕ
group_of_selector selector =
    if nat_lt selector 10 then 1 else if nat_lt selector 12 then 2 else if nat_lt selector 14 then 1 else 3

-- the group of a code
abbrev pub group_of : ℕ → ℕ
group_of code = group_of_selector (code % 16)

-- F3..F0: 0 to 9 are R0 to R9; above them T is even and AC is odd
abbrev pub register_of_selector : ℕ → Reg
register_of_selector selector = if nat_lt selector 10 then R selector else if selector % 2 == 0 then T else Ac

-- the register that a code names
abbrev pub register_of : ℕ → Reg
register_of code = register_of_selector (code % 16)

-- the right shift is function 0 of group 3
unfoldable pub is_shift : ℕ → Bool
is_shift code = function_of code == 0 && group_of code == 3

-- R0 to R9, T and AC are the registers that a code can name
abbrev pub IsRegister : Reg → Type 0
IsRegister (R number) = number < 10
IsRegister T = Unit {0}
IsRegister Ac = Unit {0}

-- group 1 has R0 to R9, T and AC; groups 2 and 3 have T and AC; there is no other group
abbrev pub HasRegister : ℕ → Reg → Type 0
HasRegister group (R number) = (group ≡ 1) × (number < 10)
HasRegister group T = (1 ≤ group) × (group ≤ 3)
HasRegister group Ac = (1 ≤ group) × (group ≤ 3)

-- F3..F0 of a register in a group that has it
abbrev pub selector_of : ℕ → Reg → ℕ
selector_of group (R number) = number
selector_of group T = if group == 1 then 12 else if group == 2 then 10 else 14
selector_of group Ac = if group == 1 then 13 else if group == 2 then 11 else 15
