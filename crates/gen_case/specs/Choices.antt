-- What is drawn for each instruction of a case (this project's own choice).
use Rattle.std.specs.Prelude.{ℕ, ◌*◌, ◌<◌, ◌==◌, if◌then◌else◌}
use Rattle.gen_case.specs.declared.choices.Operation.{Operation}
use Rattle.gen_case.specs.declared.choices.Operation.TheVariants.{Ilr, Alr, Inr, Adr, Ldi, Xnr, Sra, Lmi}
use Rattle.gen_case.specs.declared.choices.Flow.{Flow}
use Rattle.gen_case.specs.declared.choices.Flow.TheVariants.{SameRow, SameColumn, OnFlag}
use Rattle.gen_case.specs.declared.choices.Choice.{Choice}
use Rattle.gen_case.specs.Draws.{state_after, drawn, draw}

-- the operation of each number below 8
abbrev pub operation_drawn : ℕ → Operation
operation_drawn number =
    if number == 0 then Ilr
    else if number == 1 then Alr
    else if number == 2 then Inr
    else if number == 3 then Adr
    else if number == 4 then Ldi
    else if number == 5 then Xnr
    else if number == 6 then Sra
    else Lmi

-- the flow statement of each number below 3, with what its draw gives: one of 16 columns, or one of 8 rows
abbrev pub flow_drawn : ℕ → ℕ → Flow
flow_drawn number state =
    if number == 0 then SameRow (drawn state 16)
    else if number == 1 then SameColumn (drawn state 8)
    else OnFlag (drawn state 8)

-- what the five draws that begin at a state choose: operation, register, value of the field, flow statement and target
abbrev pub choice_from : ℕ → Choice
choice_from state = record {
  operation = operation_drawn (draw state 0 8);
  register = draw state 1 10;
  value = draw state 2 16;
  flow = flow_drawn (draw state 3 3) (state_after state 5);
}

-- the choice for a label: each label before it took five draws
abbrev pub choice_of : ℕ → ℕ → Choice
choice_of number label = choice_from (state_after number (5 * label))

-- a flow statement whose draw is below the number of its choices
abbrev pub IsFlow : Flow → Type 0
IsFlow (SameRow col) = col < 16
IsFlow (SameColumn row) = row < 8
IsFlow (OnFlag row) = row < 8

-- a choice whose draws are below the numbers of their choices
pub record IsChoice (choice : Choice) : Type 0 where
  pub register : choice.register < 10
  pub value : choice.value < 16
  pub flow : IsFlow choice.flow
