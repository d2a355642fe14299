use Rattle.std.proofs.Common.{ℕ, ◌-◌, ◌∷◌, [], ◌++◌, List, sym, ap, ◌∙◌, append_assoc}
use Rattle.bpnf.specs.Frames.{letters_of}
use Rattle.bpnf.proofs.LetterLaws.{first_letter}
use Rattle.bpnf.proofs.printer.print_letters.Goals as goal

pub loop-bit-preserved : goal.loop-bit-preserved
loop-bit-preserved c =
    let left = letters_of (c.loop-bit.bit - 1) c.args.word in
    ap (λ (t : List ℕ). t ++ left) c.in_ok-push.ensures.items ∙
    append_assoc c.loop-bit.text.items (c.letter_of_bit.result ∷ []) left ∙
    ap (λ (b : ℕ). c.loop-bit.text.items ++ b ∷ left) c.letter_of_bit.ensures ∙
    ap (λ (t : List ℕ). c.loop-bit.text.items ++ t) (sym (first_letter c.loop-bit.bit c.args.word c.loop-bit-test.true)) ∙
    c.loop-bit.invariant
