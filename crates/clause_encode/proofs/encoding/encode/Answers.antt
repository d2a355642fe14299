use Rattle.std.proofs.Common.{◌≡◌, ◌≤◌, ◌∙◌, ap, sym, subst, [], arith, length}
use Rattle.clause_base.specs.Clauses.{Clauses}
use Rattle.flow_graph.specs.Graph.{graph_of}
use Rattle.placement_clauses.specs.Upto.{upto}
use Rattle.clause_base.specs.TruthValues.{AllHold, truth_in}
use Rattle.placement_clauses.specs.Number.{var_count_of}
use Rattle.placement_clauses.specs.Clauses.{clauses_of}
use Rattle.placement_clauses.specs.Meaning.{meaning}
use Rattle.placement_clauses.proofs.MeaningLemmas.{meaning-sound}
use Rattle.placement_clauses.proofs.FewClauses.{few_clauses}
use Rattle.clause_encode.specs.Blocks.{numbered_block, block_count}
use Rattle.clause_encode.proofs.AddsLemmas.{Adds-upto_none, Adds-upto_more, Adds-same, Adds-all, Adds-length}
use Rattle.clause_encode.proofs.BlockLemmas.{blocks_are_clauses, front_fits}
use Rattle.clause_encode.proofs.encoding.encode.Goals as goal

pub loop-number-init : goal.loop-number-init
loop-number-init c = Adds-upto_none _ _

pub add_block-requires-clause-few : goal.add_block-requires-clause-few
add_block-requires-clause-few c =
    let g = graph_of c.args.program.now in
    let number = c.loop-number.number in
    let block = ap length c.block_at.ensures.clauses in
    let front = Adds-length _ _ _ c.loop-number.invariant in
    let none = ap (λ (l : Clauses). length l.clauses) c.in_ok-list.ensures in
    let fits = front_fits g number (omega arith) in
    let few = few_clauses c.args.program.now in
    omega (arith, block, front, none, fits, few)

pub loop-number-preserved : goal.loop-number-preserved
loop-number-preserved c =
    Adds-upto_more _ _ _ _ _ c.loop-number.invariant (Adds-same _ _ _ _ c.block_at.ensures.clauses c.in_ok-add_block.ensures)

pub returns-clause-clauses : goal.returns-clause-clauses
returns-clause-clauses c =
    let g = graph_of c.args.program.now in
    let all : c.loop-number.number ≡ block_count g = omega arith in
    Adds-all _ _ (var_count_of (length g.instrs)) (clauses_of g)
    (c.in_ok-list.ensures ∙ (λ k. record { vars = c.var_count.ensures k; clauses = [] }))
    (Adds-same _ _ (upto c.loop-number.number (numbered_block g)) (clauses_of g)
    (ap (λ m. upto m (numbered_block g)) all ∙ blocks_are_clauses g) c.loop-number.invariant)

pub returns-clause-sound : goal.returns-clause-sound
returns-clause-sound c = λ place legal.
    let g = graph_of c.args.program.now in
    subst (λ (list : Clauses). AllHold (truth_in (meaning g place)) list.clauses) (sym (returns-clause-clauses c))
    (meaning-sound g place c.args.program.now.valid legal)

pub returns-clause-few : goal.returns-clause-few
returns-clause-few c =
    subst (λ (list : Clauses). length list.clauses ≤ 16000000) (sym (returns-clause-clauses c)) (few_clauses c.args.program.now)
