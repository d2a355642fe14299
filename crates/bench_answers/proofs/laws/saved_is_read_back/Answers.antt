use Rattle.bench_answers.proofs.ReadBack.{saved_back}
use Rattle.bench_answers.proofs.laws.saved_is_read_back.Goals as goal

pub returns : goal.returns
returns c = λ order g place files said old new s text told placed meant all back.
    saved_back order g place files said old new s text told placed
    (c.words_of_a_placement.ensures.no_bad_shift g place placed.words placed.program placed.legal
    (c.words_of_a_placement.ensures.hold g place placed.words placed.legal placed.words_are))
    meant all back
