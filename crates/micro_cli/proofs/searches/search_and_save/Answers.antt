use Rattle.std.proofs.Common.{◌≡◌, ◌+◌, ◌<◌, ◌≤◌, ◌^◌, List, length, sym, ap, subst, arith}
use Rattle.flow_graph.specs.Graph.{graph_of}
use Rattle.std.specs.Prelude.{All}
use Rattle.clause_base.specs.Clauses.{IsClause}
use Rattle.clause_base.specs.Refutation.{Refutes}
use Rattle.clause_base.specs.Spent.{Spent}
use Rattle.clause_base.specs.declared.line.Line.{Line}
use Rattle.placement_clauses.specs.Clauses.{clauses_of}
use Rattle.clause_encode.specs.PlacementList.{list_of}
use Rattle.placer.specs.Placing.{HasNoPlacement, PlacingStands}
use Rattle.placer.specs.declared.placing.Placed.{Placed}
use Rattle.ref_text.specs.Text.{refutation_text, part_text}
use Rattle.saved_files.specs.FilesOfAnswers.{refuted_files, undecided_files}
use Rattle.replies.specs.declared.status.Status.TheVariants as status
use Rattle.replies.proofs.Stopping.{Ends-map}
use Rattle.bench_answers.specs.RunOrder.{order_of}
use Rattle.bench_answers.specs.Placed.{UnlessUnsaved, PlacedAnswer}
use Rattle.micro_cli.specs.Telling.{refuted_line, undecided_line}
use Rattle.micro_cli.specs.Saving.{SavesOrCannot}
use Rattle.micro_cli.specs.Searching.{SearchEnd, SearchAnswer}
use Rattle.placement_clauses.proofs.FewClauses.{few_vars}
use Rattle.micro_cli.proofs.ToldFiles.{wants_ends, found_answer, refuted_answer, undecided_answer}
use Rattle.micro_cli.proofs.searches.search_and_save.Goals as goal

pub place-requires : goal.place-requires
place-requires g c =
    record {
      room = omega (
        arith,
        c.clause_count-clauses.ensures.count,
        c.clause_count-clauses.ensures.few,
        c.requires.conflicts,
        c.from.ensures,
      );
    }

pub save_refutation-requires-clause-numbers : goal.save_refutation-requires-clause-numbers
save_refutation-requires-clause-numbers g c =
    let graph = graph_of c.args.program.now in
    let log = c.in-Ok-Refuted.log in
    let told : Refutes (list_of graph) log × (length log ≤ c.from.result + 1) × HasNoPlacement graph =
    subst (λ (p : Placed). PlacingStands graph c.from.result p) c.in-Ok-Refuted.field-0-is c.in-Ok-Refuted.ensures.stands in
    let same : length c.as_slice.result.now ≡ length log = ap length c.as_slice.ensures in
    omega (
      arith,
      c.clause_count-clauses.ensures.few,
      c.requires.conflicts,
      c.from.ensures,
      c.clause_count-clauses.ensures.count,
      told.1,
      same,
    )

pub save_spent-requires-clause-numbers : goal.save_spent-requires-clause-numbers
save_spent-requires-clause-numbers g c =
    let graph = graph_of c.args.program.now in
    let log = c.in-Ok-Undecided.log in
    let spent : Spent (list_of graph) log c.in-Ok-Undecided.clash c.from.result =
    subst (λ (p : Placed). PlacingStands graph c.from.result p) c.in-Ok-Undecided.field-0-is c.in-Ok-Undecided.ensures.stands in
    let same : length c.as_slice-lines.result.now ≡ length log = ap length c.as_slice-lines.ensures in
    omega (
      arith,
      c.clause_count-clauses.ensures.few,
      c.requires.conflicts,
      c.from.ensures,
      c.clause_count-clauses.ensures.count,
      spent.count,
      same,
    )

pub returns-in-Ok-Found-clause-ends : goal.returns-in-Ok-Found-clause-ends
returns-in-Ok-Found-clause-ends g c =
    let asked = c.args.asked in
    let graph = graph_of c.args.program.now in
    let old = g.S.Shelf.state c.args.shelf.now in
    let new = g.S.Shelf.state c.save_and_run.new.shelf in
    Ends-map (PlacedAnswer (order_of asked c.args.script_bytes.now) graph c.in-Ok-Found.placement old new)
    (SearchAnswer (order_of asked c.args.script_bytes.now) c.args.conflicts graph old new)
    (found_answer (order_of asked c.args.script_bytes.now) c.args.conflicts graph c.in-Ok-Found.placement old
    new)
    (g.K.Sink.state c.args.out.now) (g.K.Sink.state c.save_and_run.new.out) c.save_and_run.result c.save_and_run.ensures.ends

pub returns-in-Ok-Refuted-clause-ends : goal.returns-in-Ok-Refuted-clause-ends
returns-in-Ok-Refuted-clause-ends g c =
    let asked = c.args.asked in
    let graph = graph_of c.args.program.now in
    let old = g.S.Shelf.state c.args.shelf.now in
    let new = g.S.Shelf.state c.save_refutation.new.shelf in
    let lines = c.as_slice.result.now in
    let count = c.clause_count-clauses.result in
    let told : Refutes (list_of graph) c.in-Ok-Refuted.log × (length c.in-Ok-Refuted.log ≤ c.from.result + 1) × HasNoPlacement graph =
    subst (λ (p : Placed). PlacingStands graph c.from.result p) c.in-Ok-Refuted.field-0-is c.in-Ok-Refuted.ensures.stands in
    let of_lines : Refutes (list_of graph) lines × (length lines ≤ c.from.result + 1) × HasNoPlacement graph =
    subst (λ (log : List Line). Refutes (list_of graph) log × (length log ≤ c.from.result + 1) × HasNoPlacement graph)
    (sym c.as_slice.ensures) told in
    let valid : All (IsClause (list_of graph).vars) (list_of graph).clauses = c.in-Ok-Refuted.ensures.valid in
    let numbers : length (clauses_of graph) + length lines < 2 ^ 32 =
    omega (
      arith,
      c.clause_count-clauses.ensures.count,
      c.clause_count-clauses.ensures.few,
      c.requires.conflicts,
      c.from.ensures,
      of_lines.1,
    ) in
    let vars : (list_of graph).vars < 2 ^ 32 = few_vars c.args.program.now in
    let accepted = c.printed_refutations_are_taken.ensures (list_of graph) lines vars numbers of_lines.0 in
    let short = c.refutation_texts_are_short.ensures.each (list_of graph) lines valid of_lines.0.derived vars numbers in
    Ends-map (UnlessUnsaved old new
    (SavesOrCannot (refuted_files asked.out.now (refutation_text count lines)) status.Refuted (refuted_line (length lines)) old new))
    (SearchAnswer (order_of asked c.args.script_bytes.now) c.args.conflicts graph old new)
    (refuted_answer (order_of asked c.args.script_bytes.now) c.args.conflicts count c.from.result graph lines
    old new
    c.clause_count-clauses.ensures.count c.from.ensures of_lines.0 of_lines.1 of_lines.2 accepted short numbers)
    (g.K.Sink.state c.args.out.now) (g.K.Sink.state c.save_refutation.new.out) c.save_refutation.result c.save_refutation.ensures.ends

pub returns-in-Ok-Undecided-clause-ends : goal.returns-in-Ok-Undecided-clause-ends
returns-in-Ok-Undecided-clause-ends g c =
    let asked = c.args.asked in
    let graph = graph_of c.args.program.now in
    let old = g.S.Shelf.state c.args.shelf.now in
    let new = g.S.Shelf.state c.save_spent.new.shelf in
    let lines = c.as_slice-lines.result.now in
    let clash = c.in-Ok-Undecided.clash in
    let count = c.clause_count-clauses.result in
    let spent : Spent (list_of graph) c.in-Ok-Undecided.log clash c.from.result =
    subst (λ (p : Placed). PlacingStands graph c.from.result p) c.in-Ok-Undecided.field-0-is c.in-Ok-Undecided.ensures.stands in
    let of_lines : Spent (list_of graph) lines clash c.from.result =
    subst (λ (log : List Line). Spent (list_of graph) log clash c.from.result) (sym c.as_slice-lines.ensures) spent in
    Ends-map (UnlessUnsaved old new
    (SavesOrCannot (undecided_files asked.out.now (part_text count lines clash)) status.Undecided (undecided_line c.args.conflicts)
    old new))
    (SearchAnswer (order_of asked c.args.script_bytes.now) c.args.conflicts graph old new)
    (undecided_answer (order_of asked c.args.script_bytes.now) c.args.conflicts count c.from.result graph lines
    clash old new
    c.clause_count-clauses.ensures.count c.from.ensures of_lines)
    (g.K.Sink.state c.args.out.now) (g.K.Sink.state c.save_spent.new.out) c.save_spent.result c.save_spent.ensures.ends

pub returns-in-Err-clause-ends : goal.returns-in-Err-clause-ends
returns-in-Err-clause-ends g c =
    let asked = c.args.asked in
    let shelf = g.S.Shelf.state c.args.shelf.now in
    wants_ends (SearchEnd (order_of asked c.args.script_bytes.now) c.args.conflicts
    (graph_of c.args.program.now) shelf shelf) shelf
    (g.K.Sink.state c.args.out.now) (g.K.Sink.state c.say_no_memory.new.out) c.say_no_memory.result c.say_no_memory.ensures.says
