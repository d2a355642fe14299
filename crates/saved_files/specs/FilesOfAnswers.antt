-- The files that each answer of placing saves, in the order in which they are saved. This project's own choice.
use Rattle.std.specs.Prelude.{ℕ, ◌+◌, List, [], ◌∷◌}
use Rattle.saved_files.specs.SavedFile.{SavedFile}
use Rattle.saved_files.specs.FileNames.{map_name, layout_name, image_name, refutation_name, undecided_name}

-- a file of this name and these bytes
abbrev pub file_of : List ℕ → List ℕ → SavedFile
file_of name bytes = record { name = name; bytes = bytes }

-- a file for each image, numbered from here on
abbrev pub image_files : List ℕ → ℕ → List (List ℕ) → List SavedFile
image_files out number [] = []
image_files out number (image ∷ images) = file_of (image_name out number) image ∷ image_files out (number + 1) images

-- a placement: its map, its layout, and each image in rising order
abbrev pub placed_files : List ℕ → List ℕ → List ℕ → List (List ℕ) → List SavedFile
placed_files out map layout images = file_of (map_name out) map ∷ file_of (layout_name out) layout ∷ image_files out 0 images

-- a refutation
abbrev pub refuted_files : List ℕ → List ℕ → List SavedFile
refuted_files out text = file_of (refutation_name out) text ∷ []

-- a search that spent its budget
abbrev pub undecided_files : List ℕ → List ℕ → List SavedFile
undecided_files out text = file_of (undecided_name out) text ∷ []
