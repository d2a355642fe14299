-- The function code and the mask of an operation, or why it is refused (this project's own choice).
use Rattle.std.specs.Prelude.{ℕ, ◌≡◌, ◌+◌, ◌-◌, ◌*◌, ◌^◌, Bool, true, not, ◌&&◌, ◌||◌, ◌==◌, ◌<◌, nat_lt, List, [], ◌∷◌, Option, Some, None, find, Result, Ok, Err, codes, IsTrue, if◌then◌else◌}
use Rattle.std.specs.Char.{is_ascii_digit}
use Rattle.std.specs.Str.{bytes_eq}
use Rattle.cpe_slice.specs.declared.register.Reg.{Reg}
use Rattle.cpe_slice.specs.declared.register.Reg.TheVariants.{R, T, Ac}
use Rattle.cpe_slice.specs.FunctionCode.{selector_of, is_shift}
use Rattle.field_decl.specs.declared.fault.AsmKind.{AsmKind}
use Rattle.field_decl.specs.declared.fault.AsmKind.TheVariants as kinds
use Rattle.field_decl.specs.KBits.{has_kbits}
use Rattle.micro_asm.specs.declared.mnemonics.Mnemonic.{Mnemonic}
use Rattle.micro_asm.specs.declared.operation.Operation.{Operation}
use Rattle.micro_asm.specs.declared.operation.Operation.TheVariants as operations
use Rattle.micro_asm.specs.Mnemonics.{mnemonic_table}

-- R0 to R9
abbrev pub numbered_register : List ℕ → Option Reg
numbered_register (letter ∷ digit ∷ []) = if letter == 82 && is_ascii_digit digit then Some (R (digit - 48)) else None
numbered_register _ = None

-- the register of a name: R0 to R9, T, AC
unfoldable pub register_named : List ℕ → Option Reg
register_named name =
    if bytes_eq name (codes "T") then Some T
    else if bytes_eq name (codes "AC") then Some Ac
    else numbered_register name

-- R0 to R9 are in group 1 alone
abbrev pub is_in_group : ℕ → Reg → Bool
is_in_group group (R number) = group == 1
is_in_group group T = true
is_in_group group Ac = true

-- the right shift, function 0 of group 3, has a mask
abbrev pub is_masked_shift : ℕ → ℕ → ℕ → Bool
is_masked_shift function group mask = function == 0 && group == 3 && not (mask == 0)

-- a function of a register in a group under a mask: the register, the mask's shape, and no mask for the right shift
-- are tested
abbrev pub coded_for : ℕ → ℕ → ℕ → ℕ → ℕ → Option Reg → Result (ℕ × ℕ) AsmKind
coded_for slices kbus function group mask None = Err kinds.Register
coded_for slices kbus function group mask (Some register) =
    if not (is_in_group group register) then Err kinds.Register
    else if not (has_kbits slices kbus mask) then Err kinds.MaskShape
    else if is_masked_shift function group mask then Err kinds.ShiftMask
    else Ok (16 * function + selector_of group register, mask)

-- the mask of all ones, or of none
abbrev pub all_or_none : ℕ → Bool → ℕ
all_or_none slices ones = if ones then 2 ^ (2 * slices) - 1 else 0

-- the function code and the mask of a mnemonic with a register, or why they are refused
abbrev pub mnemonic_code : ℕ → ℕ → List ℕ → Option Mnemonic → Result (ℕ × ℕ) AsmKind
mnemonic_code slices kbus register None = Err kinds.Mnemonic
mnemonic_code slices kbus register (Some row) =
    coded_for slices kbus row.function row.group (all_or_none slices row.ones) (register_named register)

-- the function code and the mask of an operation on so many slices, which so many K bits share
unfoldable pub operation_code : ℕ → ℕ → Operation → Result (ℕ × ℕ) AsmKind
operation_code slices kbus (operations.Code function group register mask) =
    if nat_lt 7 function || nat_lt group 1 || nat_lt 3 group then Err kinds.Function
    else coded_for slices kbus function group mask (register_named register)
operation_code slices kbus (operations.Mnemonic name register) =
    mnemonic_code slices kbus register (find (λ row. bytes_eq name row.name) mnemonic_table)

-- the function code has seven bits, some K bits give the mask, and that of the right shift is 0
pub record FitsBus (slices kbus : ℕ) (code : ℕ × ℕ) : Type 0 where
  pub function : code.0 < 128
  pub kbits : IsTrue (has_kbits slices kbus code.1)
  pub shift : IsTrue (is_shift code.0) → code.1 ≡ 0
