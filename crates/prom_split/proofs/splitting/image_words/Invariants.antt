use Rattle.std.proofs.Common.{◌≡◌, ◌/◌, ◌%◌, ◌^◌, map, take}
use Rattle.prom_split.proofs.splitting.image_words.Given as goal

-- the bits of the words so far
abbrev pub invariant-loop-word : goal.invariant-loop-word
invariant-loop-word l = l.bytes.items ≡ map (λ word. word / 2 ^ l.first % 2 ^ l.bits) (take l.word-index l.words)
