-- The jumps of a statement by its kind and targets, and what is asked of a graph.
use Rattle.std.proofs.Common.{◌≡◌, ℕ, List, Option, Some}
use Rattle.std.specs.Prelude.{slice_get}
use Rattle.mcu_jumps.specs.Position.{Position}
use Rattle.mcu_jumps.specs.JumpWord.{JumpWord, IsJump}
use Rattle.mcu_jumps.specs.NextAddress.{lands}
use Rattle.mcu_jumps.specs.Landing.{Admits}
use Rattle.mcu_jumps.specs.declared.kinds.Kind.{Kind}
use Rattle.flow_graph.specs.declared.instructions.Instr.{Instr}
use Rattle.flow_graph.specs.Graph.{Graph}
use Rattle.flow_graph.specs.Valid.{IsProgram}
use Rattle.place_model.specs.Cells.{IsAt}
use Rattle.place_model.specs.Legal.{HasJump}

-- the graph is that of a program
abbrev pub IsValid : Graph → Type 0
IsValid g = IsProgram g.rows g.start g.pins g.instrs

-- a statement of this kind and with these targets may become this jump at this cell
pub record CanJump (place : List Position) (k : Kind) (ts : List (Option ℕ)) (from : Position) (j : JumpWord) : Type 0 where
  pub jump : IsJump j
  pub admitted : Admits k j
  pub landings : (o : ℕ) (t : Option ℕ) → slice_get ts o ≡ Some t → IsAt place t (lands from j o)

-- a jump of an instruction is one of its kind and targets
pub can-from_has : (place : List Position) (x : Instr) (from : Position) → HasJump place x from
    → (j : JumpWord) × CanJump place x.kind x.targets from j
can-from_has place x from h = (h.0, record { jump = h.1.in_range; admitted = h.1.admitted; landings = h.1.landings })

-- and the other way round
pub has-from_can : (place : List Position) (x : Instr) (from : Position) → (j : JumpWord) × CanJump place x.kind x.targets from j
    → HasJump place x from
has-from_can place x from h = (h.0, record { in_range = h.1.jump; admitted = h.1.admitted; landings = h.1.landings })
