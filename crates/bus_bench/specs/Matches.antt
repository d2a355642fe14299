-- When the chip's trace matches the flow's. This is this project's own law.
use Rattle.std.specs.Prelude.{ℕ, ◌≡◌, List, [], ◌∷◌, Option}
use Rattle.mcu_jumps.specs.Position.{Position}
use Rattle.bus_script.specs.declared.clock_view.ClockView.{ClockView}
use Rattle.place_model.specs.Cells.{IsAt}

-- as many clocks, and in each of them equal views, with the chip at the cell of the flow's label, or where the flow
-- is in the trap at a cell that no label has
abbrev pub Matches : List Position → List (Position × ClockView) → List (Option ℕ × ClockView) → Type 0
Matches place [] [] = Unit {0}
Matches place (chip ∷ chips) (flow ∷ flows) = (chip.1 ≡ flow.1) × IsAt place flow.0 chip.0 × Matches place chips flows
Matches place [] (flow ∷ flows) = ⊥
Matches place (chip ∷ chips) [] = ⊥
