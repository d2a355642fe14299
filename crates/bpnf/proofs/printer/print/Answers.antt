use Rattle.std.proofs.Common.{◌≡◌, List, ℕ, Ok, sym, subst, arith}
use Rattle.std.proofs.lemmas.Grind.{common_steps}
use Rattle.bpnf.specs.Canonical.{image_text}
use Rattle.bpnf.specs.FirstFault.{Reads}
use Rattle.bpnf.proofs.PrintedLaws.{printed_is_read}
use Rattle.bpnf.proofs.printer.print.Goals as goal

pub returns-clause-read_again : goal.returns-clause-read_again
returns-clause-read_again c =
    let text : c.print_frames.new.text.items ≡ image_text c.args.prom.now = grind (arith, common_steps) in
    subst (λ (t : List ℕ). Reads c.args.prom.now.bits 512 t (Ok c.args.prom.now.words)) (sym text)
    (printed_is_read c.args.prom.now c.bits.ensures.image)
