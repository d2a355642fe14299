-- What `map`, `flow`, `run` and `check` reply over files as they stand: a relation of the words, the files, the status
-- and the text, and of nothing else (this project's own choice).
use Rattle.std.specs.Prelude.{ℕ, ◌⊎◌, List, Option, None, Some, codes}
use Rattle.field_decl.specs.Declaration.{Declaration}
use Rattle.flow_graph.specs.Graph.{Graph}
use Rattle.bus_script.specs.Script.{BusScript}
use Rattle.prom_split.specs.Images.{image_count}
use Rattle.clause_encode.specs.PlacementList.{list_of}
use Rattle.refute_check.specs.Taken.{check_file}
use Rattle.refute_check.specs.declared.checked.Checked.{Checked}
use Rattle.replies.specs.Texts.{Refuses}
use Rattle.replies.specs.declared.status.Status.{Status}
use Rattle.bench_answers.specs.Running.{BenchReply}
use Rattle.micro_cli.specs.CheckerText.{TellsAnswer}
use Rattle.micro_cli.specs.Checking.{refutation_limit}
use Rattle.micro_cli.specs.Command.{Command, map, flow, run, make, check}
use Rattle.micro_cli.specs.Flowing.{IsFlow}
use Rattle.micro_cli.specs.Mapping.{ProgramReply}
use Rattle.micro_cli.specs.OverFiles.{GivesProgram, LacksProgram, GivesScript, LacksScriptOver, LayoutDeclares, LacksLayout, LacksOne, HoldsWords}

-- ---- `map`

-- the source gives no program, or this is the reply to its program
abbrev pub MapOver : (List ℕ → Option (List ℕ)) → List ℕ → Status → List ℕ → Type 0
MapOver files src s text =
    LacksProgram files src s text ⊎ ((g : Graph) × GivesProgram files src g × ProgramReply src g s text)

-- ---- `flow`

-- the reply where a source or its script is not had, the source first
abbrev pub LacksInputsOver : (List ℕ → Option (List ℕ)) → List ℕ → List ℕ → Status → List ℕ → Type 0
LacksInputsOver files src script s text =
    LacksProgram files src s text
    ⊎ ((g : Graph) × GivesProgram files src g × LacksScriptOver files script g.decl.slices s text)

-- source or script is not had, or this is the trace of the flow
abbrev pub FlowOver : (List ℕ → Option (List ℕ)) → List ℕ → List ℕ → ℕ → Status → List ℕ → Type 0
FlowOver files src script clocks s text =
    LacksInputsOver files src script s text
    ⊎ ((g : Graph) × (said : BusScript) × GivesProgram files src g × GivesScript files script g.decl.slices said
    × IsFlow g said clocks s text)

-- ---- `run`, of which the layout and the images are of the first files, and the script is of the second

-- the script is not had, or the bench replies to what it says
abbrev pub UnderScript : (List ℕ → Option (List ℕ)) → List ℕ → List ℕ → ℕ → Declaration → List ℕ → Status → List ℕ → Type 0
UnderScript scripts out script clocks decl words s text =
    LacksScriptOver scripts script decl.slices s text
    ⊎ ((said : BusScript) × GivesScript scripts script decl.slices said × BenchReply out decl words said clocks s text)

-- what follows a declaration: an image is not shown, or all are and give words
abbrev pub UnderLayout : (List ℕ → Option (List ℕ)) → (List ℕ → Option (List ℕ)) → List ℕ → List ℕ → ℕ → Declaration → Status → List ℕ
    → Type 0
UnderLayout files scripts out script clocks decl s text =
    LacksOne files out decl.prom_bits (image_count decl) s text
    ⊎ ((words : List ℕ) × HoldsWords files out decl words × UnderScript scripts out script clocks decl words s text)

-- the layout declares nothing, or this follows its declaration
abbrev pub RunOver : (List ℕ → Option (List ℕ)) → (List ℕ → Option (List ℕ)) → List ℕ → List ℕ → ℕ → Status → List ℕ → Type 0
RunOver files scripts out script clocks s text =
    LacksLayout files out s text
    ⊎ ((decl : Declaration) × LayoutDeclares files out decl × UnderLayout files scripts out script clocks decl s text)

-- ---- `check`

-- the checker's answer is told, or where there is none that the file is too long
abbrev pub TellsOf : Option Checked → List ℕ → Status → List ℕ → Type 0
TellsOf None name s text = Refuses name (codes "TooLong") s text
TellsOf (Some answer) name s text = TellsAnswer answer s text

-- the reply to a program and this file of a refutation
abbrev pub IsChecked : Option (List ℕ) → List ℕ → Graph → Status → List ℕ → Type 0
IsChecked None name g s text = Refuses name (codes "NoFile") s text
IsChecked (Some bytes) name g s text = TellsOf (check_file refutation_limit (list_of g) bytes) name s text

-- the source gives no program, or this is the reply to its program and the refutation
abbrev pub CheckOver : (List ℕ → Option (List ℕ)) → List ℕ → List ℕ → Status → List ℕ → Type 0
CheckOver files src refutation s text =
    LacksProgram files src s text
    ⊎ ((g : Graph) × GivesProgram files src g × IsChecked (files refutation) refutation g s text)

-- ---- the four commands

-- the reply of a command that changes no file
abbrev pub Replies : Command → (List ℕ → Option (List ℕ)) → Status → List ℕ → Type 0
Replies (map src) files s text = MapOver files src s text
Replies (flow src script clocks) files s text = FlowOver files src script clocks s text
Replies (run out script clocks) files s text = RunOver files files out script clocks s text
Replies (make src script out clocks conflicts) files s text = ⊥
Replies (check src refutation) files s text = CheckOver files src refutation s text
