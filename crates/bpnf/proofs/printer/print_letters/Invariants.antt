use Rattle.std.proofs.Common.{◌≡◌, ◌++◌}
use Rattle.bpnf.specs.Frames.{letters_of}
use Rattle.bpnf.proofs.printer.print_letters.Given as goal

-- what is printed, followed by the letters that are left, is the whole
abbrev pub invariant-loop-bit : goal.invariant-loop-bit
invariant-loop-bit l = l.text.items ++ letters_of l.bit l.word ≡ l.initial.text.items ++ letters_of l.bits l.word
