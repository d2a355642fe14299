-- The step of a command that reads PROM images one after the other, or stops at the first that is not had
-- (this project's own choice).
use Rattle.std.specs.Prelude.{ℕ, zero, suc, ◌≡◌, ◌<◌, ◌⊎◌, List, [], ◌∷◌, ◌++◌, Ok, Err}
use Rattle.io_base.specs.Shelf.{ShelfState}
use Rattle.bpnf.specs.Image.{Image}
use Rattle.bpnf.specs.FirstFault.{Reads}
use Rattle.bpnf.specs.declared.fault.BpnfFault.{BpnfFault}
use Rattle.saved_files.specs.FileNames.{image_name}
use Rattle.replies.specs.Texts.{Refuses}
use Rattle.replies.specs.FileStep.{HasFile, FileReply}
use Rattle.replies.specs.declared.status.Status.{Status}
use Rattle.prom_files.specs.declared.images_step.TheConstants.{IMAGE_LIMIT}
use Rattle.prom_files.specs.ImageTexts.{bpnf_reason}

-- the most bytes of an image's text
abbrev pub image_limit : ℕ
image_limit = IMAGE_LIMIT

-- these bytes are the text of an image whose words have so many bits
pub record ShowsImage (bits : ℕ) (bytes : List ℕ) (image : Image) : Type 0 where
  pub words : Reads bits 512 bytes (Ok image.words)
  pub bits_are : image.bits ≡ bits

-- the file of this name shows this image
pub record HasImage (name : List ℕ) (bits : ℕ) (old new : ShelfState) (image : Image) : Type 0 where
  pub bytes : List ℕ
  pub file : HasFile name image_limit old new bytes
  pub shown : ShowsImage bits bytes image

-- the file was read, and the first fault of its text is told
pub record RefusesImage (name : List ℕ) (bits : ℕ) (old new : ShelfState) (s : Status) (text : List ℕ) : Type 0 where
  pub bytes : List ℕ
  pub file : HasFile name image_limit old new bytes
  pub fault : BpnfFault
  pub meant : Reads bits 512 bytes (Err fault)
  pub reply : Refuses name (bpnf_reason fault) s text

-- the reply where a file gives no image
abbrev pub ImageReply : List ℕ → ℕ → ShelfState → ShelfState → Status → List ℕ → Type 0
ImageReply name bits old new s text = FileReply name image_limit old new s text ⊎ RefusesImage name bits old new s text

-- these are the first images of this output, as many as count, loaded one after the other
abbrev pub HasImages : List ℕ → ℕ → ℕ → ShelfState → ShelfState → List Image → Type 0
HasImages out bits zero old new images = (new ≡ old) × (images ≡ [])
HasImages out bits (suc count) old new images =
    (mid : ShelfState) × (earlier : List Image) × (last : Image)
    × HasImages out bits count old mid earlier
    × HasImage (image_name out count) bits mid new last
    × (images ≡ earlier ++ last ∷ [])

-- the reply where an image is not had, which comes for the first such image
pub record ImagesReply (out : List ℕ) (bits count : ℕ) (old new : ShelfState) (s : Status) (text : List ℕ) : Type 0 where
  pub number : ℕ
  pub below : number < count
  pub images : List Image
  pub mid : ShelfState
  pub earlier : HasImages out bits number old mid images
  pub reply : ImageReply (image_name out number) bits mid new s text
