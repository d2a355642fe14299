-- What is written piece by piece is the line.
use Rattle.gen_case.proofs.TextLemmas.{instruction_text}
use Rattle.gen_case.proofs.instruction_text.write_instruction.Goals as goal

pub returns : goal.returns
returns c =
    let whole = instruction_text c.args.text.now.items c.args.label c.args.choice.now in
    cc (
      whole,
      c.in_ok-write_label.ensures,
      c.in_ok-extend_from_slice.ensures.items,
      c.mnemonic_of.ensures,
      c.in_ok-extend_from_slice-2.ensures.items,
      c.in_ok-push.ensures.items,
      c.in_ok-write_operand.ensures,
      c.flag_of.ensures,
      c.in_ok-extend_from_slice-3.ensures.items,
      c.in_ok-extend_from_slice-4.ensures.items,
      c.in_ok-write_number.ensures,
      c.in_ok-extend_from_slice-5.ensures.items,
      c.in_ok-write_flow.ensures,
      c.in_ok-push-2.ensures.items,
    )
