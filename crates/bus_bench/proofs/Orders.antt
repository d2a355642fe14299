-- What the chip reads at a label's cell, and at a free one.
use Rattle.std.proofs.Common.{◌≡◌, ℕ, zero, suc, ◌<◌, IsTrue, List, Some, None, refl, ap, ◌∙◌, arith}
use Rattle.std.proofs.lemmas.Bool.{eqb-true}
use Rattle.mcu_jumps.specs.JumpWord.{JumpWord, IsJump}
use Rattle.cpe_slice.specs.FunctionCode.{is_shift}
use Rattle.field_decl.specs.Declaration.{Declaration}
use Rattle.field_decl.specs.KBits.{spread_bits, gathered_bits}
use Rattle.field_decl.proofs.SpreadBits.{gathered_below}
use Rattle.flow_graph.specs.declared.instructions.Instr.{Instr}
use Rattle.flow_graph.specs.Microwords.{AreValues, FitsDeclaration}
use Rattle.flow_graph.specs.Order.{Order, writes, order_of, values_of}
use Rattle.prom_split.specs.Parts.{word_by, parts_of}
use Rattle.prom_split.specs.Microword.{share_in, parts_with}
use Rattle.prom_split.proofs.FieldBits.{defaults_held}
use Rattle.prom_split.proofs.PartsBack.{parts_back}
use Rattle.prom_split.proofs.WordSum.{gathered_zero}
use Rattle.bus_bench.specs.Chip.{order_by}
use Rattle.bus_bench.specs.Law.{Declares}

-- an order that a word can hold, with these values of the fields
pub record IsHeld (decl : Declaration) (order : Order) (values : List ℕ) : Type 0 where
  pub func : order.func < 128
  pub mask : spread_bits (share_in decl) decl.kbus (gathered_bits (share_in decl) decl.kbus order.mask) ≡ order.mask
  pub shift : IsTrue (is_shift order.func) → order.mask ≡ 0
  pub fields : AreValues decl.fields values
  pub write : order.write ≡ writes decl.write values

-- the word's parts are those that it was made of
pub read_back : (decl : Declaration) (order : Order) (values : List ℕ) (jump : JumpWord) → IsHeld decl order values → IsJump jump
    → parts_of decl (word_by decl (parts_with decl order values jump)) ≡ parts_with decl order values jump
read_back decl order values jump h in_range =
    parts_back decl (parts_with decl order values jump)
    (record { jump = in_range; func = h.func; kbits = gathered_below (share_in decl) decl.kbus order.mask; values = h.fields })

-- and they order what was ordered
pub order_back : (decl : Declaration) (order : Order) (values : List ℕ) (jump : JumpWord) → IsHeld decl order values
    → order_by decl (parts_with decl order values jump) ≡ order
unfolding order_by
order_back decl order values jump h = rw (h.mask, h.write)

-- an instruction orders what a word can hold
pub instr_held : (decl : Declaration) (instr : Instr) → FitsDeclaration decl instr
    → IsHeld decl (order_of decl (Some instr)) (values_of decl (Some instr))
instr_held decl instr h = record {
  func = h.function;
  mask = eqb-true (spread_bits (share_in decl) decl.kbus (gathered_bits (share_in decl) decl.kbus instr.mask)) instr.mask h.kbits;
  shift = h.shift;
  fields = h.values;
  write = refl;
}

-- no K bits drive no bus bits
pub spread_zero : (share count : ℕ) → spread_bits share count 0 ≡ 0
unfolding spread_bits
spread_zero share zero = refl
spread_zero share (suc count) = rw (spread_zero share count) (omega arith)

-- so does a free cell
pub free_held : (decl : Declaration) → Declares decl → IsHeld decl (order_of decl None) (values_of decl None)
free_held decl h = record {
  func = omega arith;
  mask = ap (spread_bits (share_in decl) decl.kbus) (gathered_zero (share_in decl) decl.kbus) ∙ spread_zero (share_in decl) decl.kbus;
  shift = λ s. refl;
  fields = defaults_held decl.fields h.sized;
  write = refl;
}
