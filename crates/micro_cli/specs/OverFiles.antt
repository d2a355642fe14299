-- What files give as they stand, or the reply that refuses the first that gives nothing (this project's own choice).
use Rattle.std.specs.Prelude.{ℕ, ◌≡◌, ◌<◌, ◌⊎◌, List, length, Option, None, Some, slice_get, Ok, Err, codes}
use Rattle.bpnf.specs.Image.{Image}
use Rattle.bpnf.specs.FirstFault.{Reads}
use Rattle.bpnf.specs.declared.fault.BpnfFault.{BpnfFault}
use Rattle.field_decl.specs.Declaration.{Declaration}
use Rattle.field_decl.specs.Layout.{layout_of}
use Rattle.field_decl.specs.declared.fault.AsmKind.{AsmKind}
use Rattle.flow_graph.specs.Graph.{Graph}
use Rattle.micro_asm.specs.Source.{source_of}
use Rattle.bus_script.specs.Script.{BusScript, script_of}
use Rattle.prom_split.specs.Images.{image_count, AreJoined}
use Rattle.saved_files.specs.FileNames.{layout_name, image_name}
use Rattle.prom_files.specs.LayoutStep.{layout_limit}
use Rattle.prom_files.specs.ImagesStep.{image_limit, ShowsImage}
use Rattle.prom_files.specs.ImageTexts.{bpnf_reason}
use Rattle.replies.specs.Texts.{Refuses}
use Rattle.replies.specs.SourceStep.{source_limit, RefusesLine}
use Rattle.replies.specs.ScriptStep.{script_limit, RefusesScript}
use Rattle.replies.specs.declared.status.Status.{Status}
use Rattle.micro_cli.specs.Accepted.{Holds}

-- the file of this name is not there, or is too long
abbrev pub IsRefused : Option (List ℕ) → List ℕ → ℕ → Status → List ℕ → Type 0
IsRefused None name limit s text = Refuses name (codes "NoFile") s text
IsRefused (Some bytes) name limit s text = (limit < length bytes) × Refuses name (codes "TooLong") s text

-- ---- a source

-- the source of this name is this program
pub record GivesProgram (files : List ℕ → Option (List ℕ)) (src : List ℕ) (g : Graph) : Type 0 where
  pub bytes : List ℕ
  pub held : Holds files src source_limit bytes
  pub meant : source_of bytes ≡ Ok g

-- the source is no program: its first refused line is told
pub record GivesNoProgram (files : List ℕ → Option (List ℕ)) (src : List ℕ) (s : Status) (text : List ℕ) : Type 0 where
  pub bytes : List ℕ
  pub held : Holds files src source_limit bytes
  pub line : ℕ
  pub kind : AsmKind
  pub meant : source_of bytes ≡ Err (line, kind)
  pub told : RefusesLine src line kind s text

-- the reply where no program is had
abbrev pub LacksProgram : (List ℕ → Option (List ℕ)) → List ℕ → Status → List ℕ → Type 0
LacksProgram files src s text = IsRefused (files src) src source_limit s text ⊎ GivesNoProgram files src s text

-- ---- a script

-- the script of this name says this for so many slices
pub record GivesScript (files : List ℕ → Option (List ℕ)) (script : List ℕ) (slices : ℕ) (said : BusScript) : Type 0 where
  pub bytes : List ℕ
  pub held : Holds files script script_limit bytes
  pub meant : script_of slices bytes ≡ Ok said

-- it says nothing: its first refused line is told
pub record GivesNoScript (files : List ℕ → Option (List ℕ)) (script : List ℕ) (slices : ℕ) (s : Status) (text : List ℕ) : Type 0 where
  pub bytes : List ℕ
  pub held : Holds files script script_limit bytes
  pub told : RefusesScript script slices bytes s text

-- the reply where no script is had
abbrev pub LacksScriptOver : (List ℕ → Option (List ℕ)) → List ℕ → ℕ → Status → List ℕ → Type 0
LacksScriptOver files script slices s text =
    IsRefused (files script) script script_limit s text ⊎ GivesNoScript files script slices s text

-- ---- a layout

-- the layout declares this
pub record LayoutDeclares (files : List ℕ → Option (List ℕ)) (out : List ℕ) (decl : Declaration) : Type 0 where
  pub bytes : List ℕ
  pub held : Holds files (layout_name out) layout_limit bytes
  pub meant : layout_of bytes ≡ Ok decl

-- the layout declares nothing: its first refused line is told
pub record DeclaresNothing (files : List ℕ → Option (List ℕ)) (out : List ℕ) (s : Status) (text : List ℕ) : Type 0 where
  pub bytes : List ℕ
  pub held : Holds files (layout_name out) layout_limit bytes
  pub line : ℕ
  pub kind : AsmKind
  pub meant : layout_of bytes ≡ Err (line, kind)
  pub told : RefusesLine (layout_name out) line kind s text

-- the reply where no declaration is had
abbrev pub LacksLayout : (List ℕ → Option (List ℕ)) → List ℕ → Status → List ℕ → Type 0
LacksLayout files out s text =
    IsRefused (files (layout_name out)) (layout_name out) layout_limit s text ⊎ DeclaresNothing files out s text

-- ---- images

-- the file of this name shows this image
pub record Images (files : List ℕ → Option (List ℕ)) (name : List ℕ) (bits : ℕ) (image : Image) : Type 0 where
  pub bytes : List ℕ
  pub held : Holds files name image_limit bytes
  pub shown : ShowsImage bits bytes image

-- the file of this name shows no image: its first fault is told
pub record ImagesNothing (files : List ℕ → Option (List ℕ)) (name : List ℕ) (bits : ℕ) (s : Status) (text : List ℕ) : Type 0 where
  pub bytes : List ℕ
  pub held : Holds files name image_limit bytes
  pub fault : BpnfFault
  pub meant : Reads bits 512 bytes (Err fault)
  pub told : Refuses name (bpnf_reason fault) s text

-- the reply where an image is not had
abbrev pub LacksImageOver : (List ℕ → Option (List ℕ)) → List ℕ → ℕ → Status → List ℕ → Type 0
LacksImageOver files name bits s text = IsRefused (files name) name image_limit s text ⊎ ImagesNothing files name bits s text

-- these are the first images of the output
pub record AreFirst (files : List ℕ → Option (List ℕ)) (out : List ℕ) (bits count : ℕ) (images : List Image) : Type 0 where
  pub all : length images ≡ count
  pub each : (number : ℕ) (image : Image) → slice_get images number ≡ Some image → Images files (image_name out number) bits image

-- the first image that is not shown is told
pub record LacksOne (files : List ℕ → Option (List ℕ)) (out : List ℕ) (bits count : ℕ) (s : Status) (text : List ℕ) : Type 0 where
  pub number : ℕ
  pub below : number < count
  pub images : List Image
  pub before : AreFirst files out bits number images
  pub told : LacksImageOver files (image_name out number) bits s text

-- these are the words of the output's images
pub record HoldsWords (files : List ℕ → Option (List ℕ)) (out : List ℕ) (decl : Declaration) (words : List ℕ) : Type 0 where
  pub images : List Image
  pub first : AreFirst files out decl.prom_bits (image_count decl) images
  pub joined : AreJoined decl images words
