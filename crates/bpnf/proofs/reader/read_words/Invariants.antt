use Rattle.std.proofs.Common.{◌≡◌, drop}
use Rattle.bpnf.specs.Reading.{run, reading}
use Rattle.bpnf.proofs.reader.read_words.Given as goal

-- what the bytes that are left bring, after those before, is the reading of the whole
abbrev pub invariant-loop-position : goal.invariant-loop-position
invariant-loop-position l = run l.bits l.count l.position l.reader (drop l.position l.bytes) ≡ reading l.bits l.count l.bytes
