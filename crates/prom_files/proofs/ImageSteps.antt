-- Images that are had one after the other.
use Rattle.std.proofs.Common.{ℕ, zero, suc, ◌≡◌, ◌+◌, ◌<◌, ◌≤◌, ◌⊎◌, inl, inr, List, [], ◌∷◌, ◌++◌, length, Some, slice_get, IsTrue, refl, sym, ap, ◌∙◌, subst, arith, length-append}
use Rattle.io_base.specs.Shelf.{ShelfState, GoesOn, CountsNoChange}
use Rattle.bpnf.specs.Image.{Image}
use Rattle.saved_files.specs.FileNames.{image_name}
use Rattle.saved_files.proofs.ComposingStates.{goes_on_same, goes_on_both, no_change_same, no_change_both}
use Rattle.prom_split.proofs.ListSteps.{element_cases}
use Rattle.replies.specs.Ending.{StopsBy}
use Rattle.replies.specs.declared.reply.Stop.{Stop}
use Rattle.replies.proofs.Stopping.{StopsBy-map}
use Rattle.prom_files.specs.ImagesStep.{image_limit, ShowsImage, HasImage, HasImages, ImageReply, ImagesReply}

-- an image is what the file of its number shows, where the shelf tells its files
pub record IsImageOf (out : List ℕ) (bits : ℕ) (shelf : ShelfState) (number : ℕ) (image : Image) : Type 0 where
  pub bytes : List ℕ
  pub fits : length bytes ≤ image_limit
  pub told : IsTrue shelf.tells → shelf.file (image_name out number) ≡ Some bytes
  pub shown : ShowsImage bits bytes image

-- images that are had, each by its number, and how the shelf is left
pub record AreHad (out : List ℕ) (bits count : ℕ) (old new : ShelfState) (images : List Image) : Type 0 where
  pub all : length images ≡ count
  pub each : (number : ℕ) (image : Image) → slice_get images number ≡ Some image → IsImageOf out bits old number image
  pub same : new.file ≡ old.file
  pub faults : new.faults ≡ old.faults
  pub no_change : CountsNoChange old new
  pub goes_on : GoesOn old new

-- none are had at first
had_none : (out : List ℕ) (bits : ℕ) (shelf : ShelfState) → AreHad out bits 0 shelf shelf []
had_none out bits shelf = record {
  all = refl;
  each = λ number image at. cc;
  same = refl;
  faults = refl;
  no_change = no_change_same shelf;
  goes_on = goes_on_same shelf;
}

-- one more image is had
had_more : (out : List ℕ) (bits count : ℕ) (old mid new : ShelfState) (images : List Image) (image : Image)
    → AreHad out bits count old mid images → HasImage (image_name out count) bits mid new image
    → AreHad out bits (suc count) old new (images ++ image ∷ [])
had_more out bits count old mid new images image had one = record {
  all = length-append images (image ∷ []) ∙ omega (arith, had.all);
  each = each;
  same = one.file.same ∙ had.same;
  faults = one.file.faults ∙ had.faults;
  no_change = no_change_both old mid new had.no_change one.file.no_change;
  goes_on = goes_on_both old mid new had.goes_on one.file.goes_on;
}
  where
    there : IsImageOf out bits old count image
    there = record {
      bytes = one.bytes;
      fits = one.file.fits;
      told = λ tells. sym (ap (λ file. file (image_name out count)) had.same)
          ∙ one.file.told (subst IsTrue (sym had.goes_on.tells) tells);
      shown = one.shown;
    }

    each : (number : ℕ) (x : Image) → slice_get (images ++ image ∷ []) number ≡ Some x → IsImageOf out bits old number x
    each number x at = go (element_cases images image number x at)
      where
        go : (slice_get images number ≡ Some x) ⊎ ((number ≡ length images) × (x ≡ image)) → IsImageOf out bits old number x
        go (inl before) = had.each number x before
        go (inr last) =
            let P : ℕ → Type 0 = λ n. IsImageOf out bits old n x in
            let Q : Image → Type 0 = λ y. IsImageOf out bits old count y in
            subst P (sym (last.0 ∙ had.all)) (subst Q (sym last.1) there)

-- images that were loaded one after the other are had
pub images_had : (out : List ℕ) (bits count : ℕ) (old new : ShelfState) (images : List Image) → HasImages out bits count old new images
    → AreHad out bits count old new images
images_had out bits zero old new images has =
    let P : ShelfState → Type 0 = λ shelf. AreHad out bits 0 old shelf images in
    let Q : List Image → Type 0 = λ some. AreHad out bits 0 old old some in
    subst P (sym has.0) (subst Q (sym has.1) (had_none out bits old))
images_had out bits (suc count) old new images (mid, earlier, last, had, one, is) =
    let P : List Image → Type 0 = λ some. AreHad out bits (suc count) old new some in
    subst P (sym is) (had_more out bits count old mid new earlier last (images_had out bits count old mid earlier had) one)

-- before the first image
pub HasImages-none : (out : List ℕ) (bits : ℕ) (shelf : ShelfState) (images : List Image) → images ≡ []
    → HasImages out bits 0 shelf shelf images
HasImages-none out bits shelf images none = (refl, none)

-- one more image
pub HasImages-push : (out : List ℕ) (bits count : ℕ) (old mid new : ShelfState) (images : List Image) (image : Image)
    → HasImages out bits count old mid images → HasImage (image_name out count) bits mid new image
    → HasImages out bits (count + 1) old new (images ++ image ∷ [])
HasImages-push out bits count old mid new images image had one =
    let P : ℕ → Type 0 = λ n. HasImages out bits n old new (images ++ image ∷ []) in
    let next : suc count ≡ count + 1 = omega arith in
    subst P next (mid, images, image, had, one, refl)

-- an image that is not had stops the reading of all
pub ImagesReply-stop : (out : List ℕ) (bits count number : ℕ) (old mid new : ShelfState) (images : List Image) → number < count
    → HasImages out bits number old mid images → (x : Stop) → StopsBy (ImageReply (image_name out number) bits mid new) x
    → StopsBy (ImagesReply out bits count old new) x
ImagesReply-stop out bits count number old mid new images below had =
    StopsBy-map (ImageReply (image_name out number) bits mid new) (ImagesReply out bits count old new)
    (λ s text reply. record { number = number; below = below; images = images; mid = mid; earlier = had; reply = reply })
