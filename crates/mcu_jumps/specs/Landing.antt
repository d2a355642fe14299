-- Which jumps a flow statement admits, and where their outcomes land. The statements and what they admit are this
-- project's own choice; where a jump lands is the data sheet's.
use Rattle.std.specs.Prelude.{ℕ, ◌≡◌, ◌<◌, List, Option, Some, slice_get}
use Rattle.mcu_jumps.specs.declared.codes.Code.{Code}
use Rattle.mcu_jumps.specs.declared.codes.Code.TheVariants as code
use Rattle.mcu_jumps.specs.declared.kinds.Kind.{Kind}
use Rattle.mcu_jumps.specs.declared.kinds.Kind.TheVariants as kind
use Rattle.mcu_jumps.specs.Position.{Position}
use Rattle.mcu_jumps.specs.JumpWord.{JumpWord, IsJump}
use Rattle.mcu_jumps.specs.NextAddress.{lands}

-- `goto` admits JCC, JCR, and JZR with an operand below 15, which gives no strobe (this project's choice)
abbrev pub AdmitsGoto : Code → ℕ → Type 0
AdmitsGoto code.Jcc d = Unit {0}
AdmitsGoto code.Jzr d = d < 15
AdmitsGoto code.Jcr d = Unit {0}
AdmitsGoto _ d = ⊥

-- the jumps that a flow statement admits (this project's choice)
abbrev pub Admits : Kind → JumpWord → Type 0
Admits kind.Goto j = AdmitsGoto j.code j.operand
Admits kind.Strobe j = (j.code ≡ code.Jzr) × (j.operand ≡ 15)
Admits kind.Enable j = j.code ≡ code.Jce
Admits kind.IfF j = j.code ≡ code.Jfl
Admits kind.IfC j = j.code ≡ code.Jcf
Admits kind.IfZ j = j.code ≡ code.Jzf
Admits kind.OnPr j = j.code ≡ code.Jpr
Admits kind.OnPx j = j.code ≡ code.Jpx
Admits kind.OnLeft j = j.code ≡ code.Jll
Admits kind.OnRight j = j.code ≡ code.Jrl

-- how many outcomes a flow statement has
abbrev pub outcomes_of : Kind → ℕ
outcomes_of kind.Goto = 1
outcomes_of kind.Strobe = 1
outcomes_of kind.Enable = 1
outcomes_of kind.IfF = 2
outcomes_of kind.IfC = 2
outcomes_of kind.IfZ = 2
outcomes_of kind.OnPr = 16
outcomes_of kind.OnPx = 16
outcomes_of kind.OnLeft = 4
outcomes_of kind.OnRight = 4

-- each outcome whose target is given lands on it
abbrev pub LandsOnAll : Position → JumpWord → List (Option Position) → Type 0
LandsOnAll from j targets = (o : ℕ) (cell : Position) → slice_get targets o ≡ Some (Some cell) → lands from j o ≡ cell

-- the statement may become this jump, and the jump lands on all given targets
pub record Serves (from : Position) (k : Kind) (targets : List (Option Position)) (j : JumpWord) : Type 0 where
  pub jump : IsJump j
  pub admitted : Admits k j
  pub lands : LandsOnAll from j targets
