-- The K bits of a microword on the K bus. How they share it is this project's own choice.
use Rattle.std.specs.Prelude.{◌≡◌, ℕ, zero, suc, ◌+◌, ◌-◌, ◌*◌, ◌/◌, ◌%◌, ◌^◌, ◌<◌, ◌≤◌, Bool, ◌==◌}
use Rattle.field_decl.specs.declared.decl.Decl.{Decl}

-- how many bus bits a K bit drives
abbrev pub share_of : Decl → ℕ
share_of decl = 2 * decl.slices / decl.kbus

-- the mask of `count` K bits: the lowest on the lowest `share` bus bits, the others in the same way above them
unfoldable pub spread_bits : ℕ → ℕ → ℕ → ℕ
spread_bits share zero kbits = 0
spread_bits share (suc count) kbits = kbits % 2 * (2 ^ share - 1) + 2 ^ share * spread_bits share count (kbits / 2)

-- the K bits of a mask: of each `share` bus bits the lowest
unfoldable pub gathered_bits : ℕ → ℕ → ℕ → ℕ
gathered_bits share zero mask = 0
gathered_bits share (suc count) mask = mask % 2 + 2 * gathered_bits share count (mask / 2 ^ share)

-- the mask that the K bits of a declaration put on the K bus
abbrev pub spread_of : Decl → ℕ → ℕ
spread_of decl kbits = spread_bits (share_of decl) decl.kbus kbits

-- these K bits give this mask
pub record IsGathered (decl : Decl) (mask kbits : ℕ) : Type 0 where
  pub few : kbits < 2 ^ decl.kbus
  pub spread : spread_of decl kbits ≡ mask

-- so many slices, whose bits so many K bits share
pub record IsShared (slices kbus : ℕ) : Type 0 where
  pub some_slices : 1 ≤ slices
  pub most_slices : slices ≤ 16
  pub some_kbus : 0 < kbus
  pub shared : 2 * slices % kbus ≡ 0

-- some K bits give this mask: those of its lowest bits do
abbrev pub has_kbits : ℕ → ℕ → ℕ → Bool
has_kbits slices kbus mask = spread_bits (2 * slices / kbus) kbus (gathered_bits (2 * slices / kbus) kbus mask) == mask
