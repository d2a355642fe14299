-- The files of a placement, and those that its saving leaves alone (this project's own choice).
use Rattle.std.specs.Prelude.{ℕ, ◌≡◌, ◌≢◌, List, map}
use Rattle.io_base.specs.Shelf.{ShelfState}
use Rattle.mcu_jumps.specs.Position.{Position}
use Rattle.bpnf.specs.Image.{Image}
use Rattle.bpnf.specs.Canonical.{image_text}
use Rattle.field_decl.specs.LayoutText.{layout_text}
use Rattle.flow_graph.specs.Graph.{Graph}
use Rattle.place_model.specs.Legal.{IsLegal}
use Rattle.place_model.specs.MapText.{IsMapText}
use Rattle.prom_split.specs.Microword.{AreWords}
use Rattle.prom_split.specs.Images.{AreImages, FitWords}
use Rattle.bus_bench.specs.Law.{IsGraph}
use Rattle.saved_files.specs.FileNames.{map_name, layout_name, image_name}
use Rattle.saved_files.specs.SavedFile.{SavedFile}
use Rattle.saved_files.specs.FilesOfAnswers.{placed_files}

-- these are the files of a legal placement of a program: its map, its layout, and the canonical text of each image of
-- its words
pub record PlacesFiles (out : List ℕ) (g : Graph) (place : List Position) (files : List SavedFile) : Type 0 where
  pub program : IsGraph g
  pub legal : IsLegal g place
  pub map_bytes : List ℕ
  pub map_is : IsMapText g place map_bytes
  pub words : List ℕ
  pub words_are : AreWords g place words
  pub words_fit : FitWords g.decl words
  pub images : List Image
  pub images_are : AreImages g.decl words images
  pub files_are : files ≡ placed_files out map_bytes (layout_text g.decl) (map image_text images)

-- none of the names under which a placement is saved
pub record IsOtherName (out name : List ℕ) : Type 0 where
  pub no_map : name ≢ map_name out
  pub no_layout : name ≢ layout_name out
  pub no_image : (number : ℕ) → name ≢ image_name out number

-- all files of other names stay
abbrev pub KeepsOtherFiles : List ℕ → ShelfState → ShelfState → Type 0
KeepsOtherFiles out old new = (name : List ℕ) → IsOtherName out name → new.file name ≡ old.file name
