use Rattle.std.proofs.Common.{subst, sym, ◌++◌, List, ℕ, length, drop}
use Rattle.std.specs.Prelude.{replicate}
use Rattle.field_decl.specs.NameBytes.{IsPadded}
use Rattle.field_decl.proofs.NamePads.{name_pads}
use Rattle.field_decl.proofs.name.Name.from_bytes.Goals as goal

pub invariant_of-result : goal.invariant_of-result
invariant_of-result c =
    subst (λ (bytes : List ℕ). IsPadded (bytes ++ drop (length c.args.text.now) (replicate 32 0)) (length c.args.text.now))
    (sym c.copy_from_slice.ensures.after) (name_pads c.args.text.now c.requires)
