-- A file of another name is none of a placement's.
use Rattle.std.proofs.Common.{ℕ, ◌≡◌, ◌≢◌, ◌+◌, List, [], ◌∷◌, length, Some, sym, ap, ◌∙◌, suc, zero, slice_get, subst, map}
use Rattle.io_base.specs.Shelf.{ShelfState}
use Rattle.mcu_jumps.specs.Position.{Position}
use Rattle.flow_graph.specs.Graph.{Graph}
use Rattle.bpnf.specs.Canonical.{image_text}
use Rattle.field_decl.specs.LayoutText.{layout_text}
use Rattle.saved_files.specs.SavedFile.{SavedFile}
use Rattle.saved_files.specs.FilesOfAnswers.{image_files, placed_files}
use Rattle.saved_files.specs.Saving.{KeepsAllBut}
use Rattle.saved_files.proofs.FileNameLemmas.{name_at}
use Rattle.bench_answers.specs.PlacedFiles.{PlacesFiles, IsOtherName, KeepsOtherFiles}

no_image : (out name : List ℕ) (number : ℕ) (images : List (List ℕ)) (i : ℕ) (x : SavedFile)
    → IsOtherName out name → slice_get (image_files out number images) i ≡ Some x → x.name ≢ name
no_image out name number [] i x other at = cc
no_image out name number (image ∷ images) zero x other at = λ e. other.no_image number (sym (ap name_at at ∙ e))
no_image out name number (image ∷ images) (suc i) x other at = no_image out name (number + 1) images i x other at

none_of_placed : (out name map layout : List ℕ) (images : List (List ℕ)) (i : ℕ) (x : SavedFile)
    → IsOtherName out name → slice_get (placed_files out map layout images) i ≡ Some x → x.name ≢ name
none_of_placed out name map layout images zero x other at = λ e. other.no_map (sym (ap name_at at ∙ e))
none_of_placed out name map layout images (suc zero) x other at = λ e. other.no_layout (sym (ap name_at at ∙ e))
none_of_placed out name map layout images (suc (suc i)) x other at = no_image out name 0 images i x other at

-- what keeps all but the files of a placement keeps all of other names
pub others_stay : (out : List ℕ) (g : Graph) (place : List Position) (files : List SavedFile) (old new : ShelfState)
    → PlacesFiles out g place files → KeepsAllBut old new files (length files) → KeepsOtherFiles out old new
others_stay out g place files old new placed keeps = λ name other. keeps name (λ i x within at. (
    let P : List SavedFile → Type 0 = λ fs. slice_get fs i ≡ Some x in
    none_of_placed out name placed.map_bytes (layout_text g.decl) (map image_text placed.images) i x other (subst P placed.files_are at)))
