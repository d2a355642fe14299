-- What each name of a placement gives after its files were saved.
use Rattle.std.proofs.Common.{ℕ, ◌≡◌, ◌<◌, ◌+◌, List, [], ◌∷◌, length, Some, refl, arith, ap, ◌∙◌, suc, zero, slice_get}
use Rattle.std.proofs.lemmas.Option.{slice_get_within}
use Rattle.io_base.specs.Shelf.{ShelfState, IsTold}
use Rattle.saved_files.specs.FileNames.{map_name, layout_name, image_name}
use Rattle.saved_files.specs.FilesOfAnswers.{file_of, image_files, placed_files}
use Rattle.saved_files.specs.Saving.{IsSaved}
use Rattle.saved_files.proofs.FileNameLemmas.{length_image_files}

-- the file of an image
pub image_file_at : (out : List ℕ) (number : ℕ) (images : List (List ℕ)) (i : ℕ) (image : List ℕ) → slice_get images i ≡ Some image →
    slice_get (image_files out number images) i ≡ Some (file_of (image_name out (number + i)) image)
image_file_at out number [] i image at = cc
image_file_at out number (first ∷ images) zero image at =
    let is : first ≡ image = cc in
    let e : number ≡ number + 0 = omega arith in
    ap (λ (bytes : List ℕ). Some (file_of (image_name out number) bytes)) is ∙ ap (λ (n : ℕ). Some (file_of (image_name out n) image)) e
image_file_at out number (first ∷ images) (suc i) image at =
    let e : number + 1 + i ≡ number + suc i = omega arith in
    image_file_at out (number + 1) images i image at ∙ ap (λ (n : ℕ). Some (file_of (image_name out n) image)) e

pub map_stands : (old new : ShelfState) (out map layout : List ℕ) (images : List (List ℕ)) → IsTold old
    → IsSaved old new (placed_files out map layout images) →
    new.file (map_name out) ≡ Some map
map_stands old new out map layout images told saved = saved.whole told 0 (file_of (map_name out) map) (omega arith) refl

pub layout_stands : (old new : ShelfState) (out map layout : List ℕ) (images : List (List ℕ)) → IsTold old
    → IsSaved old new (placed_files out map layout images) →
    new.file (layout_name out) ≡ Some layout
layout_stands old new out map layout images told saved = saved.whole told 1 (file_of (layout_name out) layout) (omega arith) refl

pub image_stands : (old new : ShelfState) (out map layout : List ℕ) (images : List (List ℕ)) → IsTold old
    → IsSaved old new (placed_files out map layout images) →
    (number : ℕ) (image : List ℕ) → slice_get images number ≡ Some image → new.file (image_name out number) ≡ Some image
image_stands old new out map layout images told saved number image at =
    let within = slice_get_within images number image at in
    let count = length_image_files out 0 images in
    let less : suc (suc number) < length (placed_files out map layout images) = omega (arith, within, count) in
    let name : 0 + number ≡ number = omega arith in
    let file = image_file_at out 0 images number image at ∙ ap (λ (n : ℕ). Some (file_of (image_name out n) image)) name in
    saved.whole told (suc (suc number)) (file_of (image_name out number) image) less file
