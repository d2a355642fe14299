use Rattle.std.proofs.Common.{◌≡◌, false}
use Rattle.search_tests.proofs.refutation_texts.reading.Given as goal

abbrev pub invariant-pieces : goal.invariant-pieces
invariant-pieces l = l.reader.failed ≡ false

abbrev pub invariant-feeds : goal.invariant-feeds
invariant-feeds l = l.reader.failed ≡ false
