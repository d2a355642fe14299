use Rattle.std.proofs.Common.{Some, ap, ◌∙◌}
use Rattle.field_decl.specs.Declaration.{Declaration}
use Rattle.flow_graph.specs.Graph.{graph_of}
use Rattle.prom_split.specs.Microword.{word_with}
use Rattle.prom_split.proofs.PlacedSteps.{word_of_label}
use Rattle.prom_split.proofs.placed_words.word_of.Goals as goal

pub instr_word-requires : goal.instr_word-requires
instr_word-requires c = rw c.decl.ensures (c.args.program.now.fits.each c.in-Some.label c.instr.result.now c.instr.ensures)

pub returns-in-Some-clause-word : goal.returns-in-Some-clause-word
returns-in-Some-clause-word c =
    word_of_label (graph_of c.args.program.now)
    c.args.placement.now c.in-Some.label c.instr.result.now c.args.cell c.jump_of.result c.instr_word.result c.requires
    c.instr.ensures c.in-Some.ensures.some
    (c.jump_of.ensures c.instr.result.now c.args.cell c.instr.ensures c.in-Some.ensures.some)
    (c.instr_word.ensures.word ∙ ap (λ (decl : Declaration). word_with decl (Some c.instr.result.now) c.jump_of.result) c.decl.ensures)
