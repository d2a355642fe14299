-- The step of a command that reads the microwords which were saved under a name: layout, images in rising order, and
-- the words that they join to; or the reply that ends the command (this project's own choice).
use Rattle.std.specs.Prelude.{ℕ, ◌⊎◌, List}
use Rattle.io_base.specs.Shelf.{ShelfState}
use Rattle.bpnf.specs.Image.{Image}
use Rattle.field_decl.specs.Declaration.{Declaration}
use Rattle.prom_split.specs.Images.{image_count, AreJoined}
use Rattle.replies.specs.declared.status.Status.{Status}
use Rattle.prom_files.specs.LayoutStep.{HasLayout, LayoutReply}
use Rattle.prom_files.specs.ImagesStep.{HasImages, ImagesReply}

-- the images of this output give these words of a declaration
pub record HasJoined (out : List ℕ) (old new : ShelfState) (decl : Declaration) (words : List ℕ) : Type 0 where
  pub images : List Image
  pub read : HasImages out decl.prom_bits (image_count decl) old new images
  pub joined : AreJoined decl images words

-- the layout and the images of this output give these words
pub record HasWords (out : List ℕ) (old new : ShelfState) (decl : Declaration) (words : List ℕ) : Type 0 where
  pub mid : ShelfState
  pub layout : HasLayout out old mid decl
  pub images : HasJoined out mid new decl words

-- the layout was read, and an image is not had
pub record LacksImage (out : List ℕ) (old new : ShelfState) (s : Status) (text : List ℕ) : Type 0 where
  pub decl : Declaration
  pub mid : ShelfState
  pub layout : HasLayout out old mid decl
  pub reply : ImagesReply out decl.prom_bits (image_count decl) mid new s text

-- the reply where the words are not had
abbrev pub WordsReply : List ℕ → ShelfState → ShelfState → Status → List ℕ → Type 0
WordsReply out old new s text = LayoutReply out old new s text ⊎ LacksImage out old new s text
