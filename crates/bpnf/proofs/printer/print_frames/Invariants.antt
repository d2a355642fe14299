use Rattle.std.proofs.Common.{◌≡◌, ◌++◌, drop}
use Rattle.bpnf.specs.Canonical.{frames_of}
use Rattle.bpnf.proofs.printer.print_frames.Given as goal

-- what is printed, followed by the frames that are left, is the whole
abbrev pub invariant-loop-word : goal.invariant-loop-word
invariant-loop-word l = l.text.items ++ frames_of l.bits (drop l.word-index l.words) ≡ l.initial.text.items ++ frames_of l.bits l.words
