use Rattle.std.proofs.Common.{◌≡◌, take}
use Rattle.std.specs.Prelude.{map}
use Rattle.field_decl.specs.Words.{word_from}
use Rattle.field_decl.proofs.word.words_from.Given as goal

abbrev pub invariant-loop-token : goal.invariant-loop-token
invariant-loop-token l = l.words.items ≡ map (word_from l.line) (take l.token-index l.tokens)
