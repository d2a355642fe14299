-- Which masks some K bits give.
use Rattle.std.proofs.Common.{◌≡◌, ℕ, zero, suc, ◌+◌, ◌*◌, ◌/◌, ◌^◌, ◌≤◌, ◌<◌, sym, ap, ◌∙◌, arith, eq-eqb}
use Rattle.std.specs.Prelude.{IsTrue}
use Rattle.std.proofs.lemmas.Bool.{eqb-true}
use Rattle.field_decl.specs.KBits.{spread_bits, gathered_bits, IsShared, has_kbits}
use Rattle.field_decl.proofs.SpreadBits.{gathered_spread, gathered_below}

some_share : (bits kbus share : ℕ) → kbus * share + 0 ≡ bits → 1 ≤ bits → 0 < share
some_share bits kbus zero all some = absurd (omega (arith, all))
some_share bits kbus (suc share) all some = omega arith

-- a mask that K bits give has K bits
pub given_has : (slices kbus mask kbits : ℕ) → IsShared slices kbus → kbits < 2 ^ kbus → spread_bits (2 * slices / kbus) kbus kbits ≡ mask
    → IsTrue (has_kbits slices kbus mask)
given_has slices kbus mask kbits shared few spread =
    let share : ℕ = 2 * slices / kbus in
    let whole : kbus * (2 * slices / kbus) + 0 ≡ 2 * slices = omega (arith, shared.shared, shared.some_kbus) in
    let some : 0 < share = some_share (2 * slices) kbus share whole (omega (arith, shared.some_slices)) in
    let back : gathered_bits share kbus mask ≡ kbits = ap (gathered_bits share kbus) (sym spread)
    ∙ gathered_spread share kbus kbits some few in
    eq-eqb (spread_bits share kbus (gathered_bits share kbus mask)) mask (ap (spread_bits share kbus) back ∙ spread)

-- a mask that has K bits is given by its lowest bits
pub has_given : (slices kbus mask : ℕ) → IsTrue (has_kbits slices kbus mask)
    → (kbits : ℕ) × (kbits < 2 ^ kbus) × (spread_bits (2 * slices / kbus) kbus kbits ≡ mask)
has_given slices kbus mask has =
    let share : ℕ = 2 * slices / kbus in (
      gathered_bits share kbus mask,
      gathered_below share kbus mask,
      eqb-true (spread_bits share kbus (gathered_bits share kbus mask)) mask has,
    )
