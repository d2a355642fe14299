use Rattle.bench_answers.proofs.laws.images_follow_the_flow.Goals as goal

pub returns : goal.returns
returns c = λ out g place files script n placed fits.
    c.chip_matches_flow.ensures g place placed.words script n placed.program placed.legal
    (c.words_of_a_placement.ensures.hold g place placed.words placed.legal placed.words_are) fits
