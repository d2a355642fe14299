-- Images that are had join.
use Rattle.std.proofs.Common.{ℕ, ◌≡◌, ◌∙◌, List}
use Rattle.io_base.specs.Shelf.{ShelfState}
use Rattle.bpnf.specs.Image.{Image}
use Rattle.field_decl.specs.Declaration.{Declaration}
use Rattle.prom_split.specs.Joining.{IsJoinFault}
use Rattle.prom_split.specs.Images.{image_count}
use Rattle.prom_split.specs.declared.joining.JoinFault.TheVariants.{PromCount, PromWidth}
use Rattle.prom_files.specs.ImagesStep.{HasImages}
use Rattle.prom_files.proofs.ImageSteps.{images_had}

-- each has the declared width
pub no_other_width : (out : List ℕ) (decl : Declaration) (old new : ShelfState) (images : List Image) (count k : ℕ)
    → HasImages out decl.prom_bits count old new images → IsJoinFault decl images (PromWidth k) → ⊥
no_other_width out decl old new images count k had fault =
    fault.1.2 ((images_had out decl.prom_bits count old new images had).each k fault.1.0 fault.1.1).shown.bits_are

-- they are as many as were loaded
pub no_other_count : (out : List ℕ) (decl : Declaration) (old new : ShelfState) (images : List Image) (count n : ℕ)
    → HasImages out decl.prom_bits count old new images → count ≡ image_count decl → IsJoinFault decl images (PromCount n) → ⊥
no_other_count out decl old new images count n had is fault =
    fault.1 (fault.0 ∙ (images_had out decl.prom_bits count old new images had).all ∙ is)
