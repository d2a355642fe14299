use Rattle.micro_asm.proofs.instruction.read_instruction.Goals as goal

pub operation_code-requires : goal.operation_code-requires
operation_code-requires c = c.kbus.ensures.shared c.args.slices c.requires
