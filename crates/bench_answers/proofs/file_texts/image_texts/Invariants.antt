use Rattle.std.proofs.Common.{◌≡◌, map, take}
use Rattle.bpnf.specs.Canonical.{image_text}
use Rattle.bench_answers.proofs.file_texts.image_texts.Given as goal

-- the texts of the images so far
abbrev pub invariant-loop-image : goal.invariant-loop-image
invariant-loop-image l = map (λ text. text.items) l.texts.items ≡ map image_text (take l.image-index l.images)
