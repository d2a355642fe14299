use Rattle.std.proofs.Common.{◌≡◌, ◌<◌, ◌-◌, ◌^◌, ℕ, Bool, List, IsTrue, length, sym, subst, arith}
use Rattle.mcu_jumps.specs.Position.{Position}
use Rattle.flow_graph.specs.Graph.{graph_of}
use Rattle.flow_graph.specs.declared.programs.Program.{Program}
use Rattle.place_model.specs.Legal.{IsLegal}
use Rattle.clause_base.specs.TruthValues.{AllHold, truth_in}
use Rattle.placement_clauses.specs.Meaning.{meaning}
use Rattle.placement_clauses.proofs.MeaningLemmas.{meaning-sound}
use Rattle.clause_encode.specs.PlacementList.{list_of}
use Rattle.clause_encode.proofs.ProgramLemmas.{few_vars}
use Rattle.refute_check.specs.Taken.{Explains, IsOfBytes}
use Rattle.refute_check.specs.declared.checked.Checked.{Checked}
use Rattle.refute_check.specs.declared.checked.Checked.TheVariants as checked
use Rattle.refute_check.proofs.DeriveLemmas.{each_answer}
use Rattle.refute_check.proofs.files.check_ref.Goals as goal

pub check_lines-requires-clause-len : goal.check_lines-requires-clause-len
check_lines-requires-clause-len g c =
    subst (λ (p : Program). length (list_of (graph_of p)).clauses < 2 ^ 32 - 1) (sym c.new-source.ensures.program)
    (omega (arith, c.new-source.ensures.few))

pub check_lines-requires-clause-vars : goal.check_lines-requires-clause-vars
check_lines-requires-clause-vars g c =
    subst (λ (p : Program). (list_of (graph_of p)).vars < 2 ^ 31) (sym c.new-source.ensures.program)
    (few_vars (length (graph_of c.args.program.now).instrs) c.args.program.now.valid.cells_for_all)

pub returns-clause-refuted : goal.returns-clause-refuted
returns-clause-refuted g c =
    each_answer (λ (answer : Checked). (k : ℕ) → answer ≡ checked.Refutes k → (values : ℕ → Bool)
    → AllHold values (list_of (graph_of c.new-source.result.program.now)).clauses → ⊥)
    (λ (answer : Checked). (k : ℕ) → answer ≡ checked.Refutes k → (place : List Position) → IsLegal (graph_of c.args.program.now) place
    → ⊥)
    (λ answer h k refutes place legal. h k refutes (truth_in (meaning (graph_of c.args.program.now) place))
    (subst (λ (p : Program). AllHold (truth_in (meaning (graph_of c.args.program.now) place)) (list_of (graph_of p)).clauses)
    (sym c.new-source.ensures.program)
    (meaning-sound (graph_of c.args.program.now) place c.args.program.now.valid legal)))
    c.check_lines.result c.check_lines.ensures.refuted

pub returns-clause-told : goal.returns-clause-told
returns-clause-told g c =
    subst (λ (p : Program). IsTrue (g.S.Shelf.state c.args.shelf.now).tells
    → Explains ((g.S.Shelf.state c.args.shelf.now).file c.args.name.now) (2 ^ 43) (list_of (graph_of p)) c.check_lines.result)
    c.new-source.ensures.program c.check_lines.ensures.told

pub returns-clause-of_bytes : goal.returns-clause-of_bytes
returns-clause-of_bytes g c =
    subst (λ (p : Program). IsOfBytes (2 ^ 43) (list_of (graph_of p)) (g.S.Shelf.state c.args.shelf.now)
    (g.S.Shelf.state c.check_lines.new.shelf) c.check_lines.result)
    c.new-source.ensures.program c.check_lines.ensures.of_bytes
