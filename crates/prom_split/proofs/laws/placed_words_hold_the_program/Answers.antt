use Rattle.prom_split.proofs.PlacedLaws.{words_hold, one_list}
use Rattle.prom_split.proofs.laws.placed_words_hold_the_program.Goals as goal

pub returns-clause-hold : goal.returns-clause-hold
returns-clause-hold c = words_hold

pub returns-clause-one : goal.returns-clause-one
returns-clause-one c = one_list
