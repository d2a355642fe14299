-- The law that one label fixes a jump. It follows from the jump table and from what the statements admit.
use Rattle.std.specs.Prelude.{ℕ, ◌≡◌, ◌<◌}
use Rattle.mcu_jumps.specs.declared.kinds.Kind.{Kind}
use Rattle.mcu_jumps.specs.Position.{Position}
use Rattle.mcu_jumps.specs.JumpWord.{JumpWord}
use Rattle.mcu_jumps.specs.NextAddress.{lands}
use Rattle.mcu_jumps.specs.Landing.{Admits, outcomes_of}

-- from one cell, two jumps of a statement with more than one outcome that take one outcome to one cell are the same
abbrev pub OneJumpToLabel : Type 0
OneJumpToLabel =
    (kind : Kind) (from label : Position) (outcome : ℕ) (one other : JumpWord) → 1 < outcomes_of kind
    → Admits kind one → Admits kind other → lands from one outcome ≡ label → lands from other outcome ≡ label
    → one ≡ other
