use Rattle.std.proofs.Common.{ℕ, ◌≡◌, ◌<◌, Some, slice_get}
use Rattle.bpnf.specs.Image.{Image, IsImage}
use Rattle.prom_split.proofs.joining.first_of_other_width.Given as goal

-- the images so far have these bits
abbrev pub invariant-loop-place : goal.invariant-loop-place
invariant-loop-place l = (k : ℕ) (image : Image) → k < l.place → slice_get l.proms k ≡ Some image → IsImage image × (image.bits ≡ l.bits)
