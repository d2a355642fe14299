-- Why images are not those of a declaration's words (this project's own choice).
use Rattle.std.specs.Prelude.{ℕ, ◌≡◌, ◌≢◌, ◌<◌, List, length, Some, slice_get}
use Rattle.bpnf.specs.Image.{Image}
use Rattle.field_decl.specs.Declaration.{Declaration}
use Rattle.prom_split.specs.Images.{image_count}
use Rattle.prom_split.specs.declared.joining.JoinFault.{JoinFault}
use Rattle.prom_split.specs.declared.joining.JoinFault.TheVariants.{PromCount, PromWidth, OutOfMemory}

-- image k, from 0, is the first whose words have other bits than these
abbrev pub IsFirstOfOtherWidth : ℕ → List Image → ℕ → Type 0
IsFirstOfOtherWidth bits images k =
    (image : Image) × (slice_get images k ≡ Some image) × (image.bits ≢ bits)
    × ((j : ℕ) (earlier : Image) → j < k → slice_get images j ≡ Some earlier → earlier.bits ≡ bits)

-- the number of images is told where it is not that of the words' images; else the first image of other bits
abbrev pub IsJoinFault : Declaration → List Image → JoinFault → Type 0
IsJoinFault decl images (PromCount n) = (n ≡ length images) × (n ≢ image_count decl)
IsJoinFault decl images (PromWidth k) = (length images ≡ image_count decl) × IsFirstOfOtherWidth decl.prom_bits images k
IsJoinFault decl images OutOfMemory = Unit {0}
