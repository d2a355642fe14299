use Rattle.prom_split.proofs.JoinedBack.{read_back, images_one}
use Rattle.prom_split.proofs.laws.joined_images_are_the_words.Goals as goal

pub returns-clause-back : goal.returns-clause-back
returns-clause-back c = read_back

pub returns-clause-one : goal.returns-clause-one
returns-clause-one c = images_one
