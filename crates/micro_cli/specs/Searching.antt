-- What the search answers of a program within a budget of conflicts (this project's own choice).
use Rattle.std.specs.Prelude.{ℕ, ◌≡◌, ◌+◌, ◌*◌, ◌^◌, ◌<◌, ◌≤◌, ◌⊎◌, List, length}
use Rattle.io_base.specs.Shelf.{ShelfState}
use Rattle.mcu_jumps.specs.Position.{Position}
use Rattle.flow_graph.specs.Graph.{Graph}
use Rattle.clause_base.specs.Refutation.{Refutes}
use Rattle.clause_base.specs.Spent.{Spent}
use Rattle.clause_base.specs.declared.line.Line.{Line}
use Rattle.clause_base.specs.declared.clash.Clash.{Clash}
use Rattle.placement_clauses.specs.Clauses.{clauses_of}
use Rattle.clause_encode.specs.PlacementList.{list_of}
use Rattle.placer.specs.Placing.{HasNoPlacement}
use Rattle.ref_text.specs.Text.{refutation_text, part_text}
use Rattle.refute_check.specs.Check.{check}
use Rattle.refute_check.specs.declared.checked.Checked.TheVariants as checked
use Rattle.saved_files.specs.FilesOfAnswers.{refuted_files, undecided_files}
use Rattle.replies.specs.declared.status.Status.{Status}
use Rattle.replies.specs.declared.status.Status.TheVariants as status
use Rattle.bench_answers.specs.RunOrder.{RunOrder}
use Rattle.bench_answers.specs.Placed.{IsPlaced, UnlessUnsaved}
use Rattle.micro_cli.specs.Telling.{refuted_line, undecided_line}
use Rattle.micro_cli.specs.Saving.{SavesOrCannot}

-- a legal placement was found: its files were made, and became this
pub record FoundAnswer (order : RunOrder) (g : Graph) (old new : ShelfState) (s : Status) (text : List ℕ) : Type 0 where
  pub place : List Position
  pub placed : IsPlaced order g place old new s text

-- No placement is legal, by a refutation of the program's clauses of at most one line more than the budget. The
-- checker accepts its text, whose length is bounded by the number of lines and variables. It is saved as `OUT.ref`
-- and told by the number of its lines, or it is told that the file was not saved.
pub record RefutedAnswer (out : List ℕ) (g : Graph) (conflicts : ℕ) (old new : ShelfState) (s : Status) (text : List ℕ) : Type 0 where
  pub lines : List Line
  pub refutes : Refutes (list_of g) lines
  pub few : length lines ≤ conflicts + 1
  pub none_legal : HasNoPlacement g
  pub accepted : check (list_of g) (refutation_text (length (clauses_of g)) lines) ≡ checked.Refutes (length lines)
  pub short : length (refutation_text (length (clauses_of g)) lines) ≤ length lines * (12 * (list_of g).vars + 27)
  pub numbered : length (clauses_of g) + length lines < 2 ^ 32
  pub answer : SavesOrCannot (refuted_files out (refutation_text (length (clauses_of g)) lines)) status.Refuted
      (refuted_line (length lines)) old new s text

-- The budget was spent on lines that are new, and ended in a clash. Both are saved as `OUT.part` and the budget is
-- told, or it is told that the file was not saved.
pub record UndecidedAnswer (out : List ℕ) (g : Graph) (conflicts : ℕ) (old new : ShelfState) (s : Status) (text : List ℕ) : Type 0 where
  pub lines : List Line
  pub clash : Clash
  pub spent : Spent (list_of g) lines clash conflicts
  pub answer : SavesOrCannot (undecided_files out (part_text (length (clauses_of g)) lines clash)) status.Undecided
      (undecided_line conflicts) old new s text

-- how the search ended, and what became of that
abbrev pub SearchEnd : RunOrder → ℕ → Graph → ShelfState → ShelfState → Status → List ℕ → Type 0
SearchEnd order conflicts g old new s text =
    FoundAnswer order g old new s text
    ⊎ RefutedAnswer order.out g conflicts old new s text
    ⊎ UndecidedAnswer order.out g conflicts old new s text

-- what the search answers of a program and a script's bytes, unless memory is refused before a file is begun
abbrev pub SearchAnswer : RunOrder → ℕ → Graph → ShelfState → ShelfState → Status → List ℕ → Type 0
SearchAnswer order conflicts g old new = UnlessUnsaved old new (SearchEnd order conflicts g old new)
