-- The names of a case: of labels, registers, mnemonics and flags.
use Rattle.std.proofs.Common.{◌≡◌, ℕ, ◌≤◌, ◌<◌, ◌≢◌, true, false, List, [], ◌∷◌, length, Option, Some, None, refl, ap, arith, inl, inr}
use Rattle.std.specs.Prelude.{codes, decimal, slice_index, nat_lt, nat_le}
use Rattle.std.specs.List.{list_all}
use Rattle.std.specs.Char.{is_ascii_digit}
use Rattle.std.specs.Str.{bytes_eq}
use Rattle.std.proofs.lemmas.Bool.{cases_Bool, ltb-true, leb-true}
use Rattle.std.proofs.lemmas.Cmp.{nat_list_eq_equiv}
use Rattle.std.proofs.lemmas.Slice.Eq.{bytes_eq-Decides}
use Rattle.std.proofs.lemmas.Fmt.{decimal_injective, length-decimal-le}
use Rattle.micro_lex.specs.Alphabet.{is_run_byte}
use Rattle.micro_lex.specs.Names.{IsName}
use Rattle.field_decl.proofs.SpacedRuns.{number_is_run}
use Rattle.gen_case.specs.declared.choices.Operation.{Operation}
use Rattle.gen_case.specs.declared.choices.Operation.TheVariants.{Ilr, Alr, Inr, Adr, Ldi, Xnr, Sra, Lmi}
use Rattle.gen_case.specs.declared.choices.Flow.{Flow}
use Rattle.gen_case.specs.declared.choices.Flow.TheVariants.{SameRow, SameColumn, OnFlag}
use Rattle.gen_case.specs.Labels.{label_name}
use Rattle.gen_case.specs.SourceText.{mnemonic_of, register_name, operand_of, flag_of, statement_of}

-- a text that passes the tests of a name is one
pub tested_name : (text : List ℕ) → nat_lt 0 (length text) ≡ true → nat_le (length text) 32 ≡ true → list_all is_run_byte text ≡ true
    → is_ascii_digit (slice_index text 0) ≡ false → IsName text
tested_name text some short plain begins =
    record { some = ltb-true 0 (length text) some; short = leb-true (length text) 32 short; plain = plain; begins = begins }

-- a letter and a number of at most three digits is a name
lettered : (letter number : ℕ) → is_run_byte letter ≡ true → is_ascii_digit letter ≡ false → number < 1000
    → IsName (letter ∷ decimal number)
lettered letter number run begins small =
    let digits : length (decimal number) ≤ 3 = length-decimal-le 3 number (omega arith) (omega arith) (omega arith) in
    record {
      some = omega arith;
      short = omega (arith, digits);
      plain = rw run (number_is_run number (omega arith)).plain;
      begins = begins;
    }

-- the name of a label is a name
pub label_is_name : (label : ℕ) → label < 128 → IsName (label_name label)
label_is_name label small = lettered 76 label refl refl (omega arith)

-- so is that of a register
pub register_is_name : (register : ℕ) → register < 10 → IsName (register_name register)
register_is_name register small = lettered 82 register refl refl (omega arith)

-- and each mnemonic
pub mnemonic_is_name : (operation : Operation) → IsName (mnemonic_of operation)
mnemonic_is_name Ilr = tested_name (codes "ILR") refl refl refl refl
mnemonic_is_name Alr = tested_name (codes "ALR") refl refl refl refl
mnemonic_is_name Inr = tested_name (codes "INR") refl refl refl refl
mnemonic_is_name Adr = tested_name (codes "ADR") refl refl refl refl
mnemonic_is_name Ldi = tested_name (codes "LDI") refl refl refl refl
mnemonic_is_name Xnr = tested_name (codes "XNR") refl refl refl refl
mnemonic_is_name Sra = tested_name (codes "SRA") refl refl refl refl
mnemonic_is_name Lmi = tested_name (codes "LMI") refl refl refl refl

-- and each operand
pub operand_is_name : (operation : Operation) (register : ℕ) → register < 10 → IsName (operand_of operation register)
operand_is_name Ilr register small = register_is_name register small
operand_is_name Alr register small = register_is_name register small
operand_is_name Inr register small = register_is_name register small
operand_is_name Adr register small = register_is_name register small
operand_is_name Ldi register small = tested_name (codes "AC") refl refl refl refl
operand_is_name Xnr register small = register_is_name register small
operand_is_name Sra register small = tested_name (codes "AC") refl refl refl refl
operand_is_name Lmi register small = register_is_name register small

-- a flag function, where there is one, has a name
abbrev pub IsFlagName : Option (List ℕ) → Type 0
IsFlagName None = Unit {0}
IsFlagName (Some flag) = IsName flag

-- those of the operations have
pub flag_is_name : (operation : Operation) → IsFlagName (flag_of operation)
flag_is_name Ilr = tt
flag_is_name Alr = tt
flag_is_name Inr = tested_name (codes "FF1") refl refl refl refl
flag_is_name Adr = tested_name (codes "STC") refl refl refl refl
flag_is_name Ldi = tested_name (codes "FF1") refl refl refl refl
flag_is_name Xnr = tested_name (codes "STZ") refl refl refl refl
flag_is_name Sra = tested_name (codes "FFC") refl refl refl refl
flag_is_name Lmi = tested_name (codes "FFZ") refl refl refl refl

-- and each flow statement
pub statement_is_name : (flow : Flow) → IsName (statement_of flow)
statement_is_name (SameRow col) = tested_name (codes "goto") refl refl refl refl
statement_is_name (SameColumn row) = tested_name (codes "goto") refl refl refl refl
statement_is_name (OnFlag row) = tested_name (codes "iff") refl refl refl refl

-- ---- labels by their names

-- the bytes behind the first
abbrev tail_of : List ℕ → List ℕ
tail_of [] = []
tail_of (b ∷ bs) = bs

-- labels of one name are one
same_label : (a b : ℕ) → a < 128 → b < 128 → label_name a ≡ label_name b → a ≡ b
same_label a b ha hb e = decimal_injective a b (omega arith) (omega arith) (ap tail_of e)

-- a name is itself
pub own_name : (label : ℕ) → bytes_eq (label_name label) (label_name label) ≡ true
own_name label = nat_list_eq_equiv.refl (label_name label)

-- the names of two labels differ
pub other_name : (a b : ℕ) → a < 128 → b < 128 → a ≢ b → bytes_eq (label_name a) (label_name b) ≡ false
other_name a b ha hb differ = elim (cases_Bool (bytes_eq (label_name a) (label_name b))) [
  | inl same ↦ absurd (differ (same_label a b ha hb ((bytes_eq-Decides (label_name a) (label_name b)).0 same)))
  | inr other ↦ other
]
