use Rattle.field_decl.specs.Decls.{declaration_of}
use Rattle.prom_files.proofs.JoinSteps.{no_other_count, no_other_width}
use Rattle.prom_files.proofs.words_step.load_joined.Goals as goal

pub unreachable-requires-in-Err-PromWidth : goal.unreachable-requires-in-Err-PromWidth
unreachable-requires-in-Err-PromWidth g c =
    no_other_width c.args.out.now (declaration_of c.args.decl.now) (g.S.Shelf.state c.args.shelf.now)
    (g.S.Shelf.state c.load_images.new.shelf) c.in-Ok.images.items c.prom_count.result c.in-Err-PromWidth.field-0-0 c.in-Ok.ensures.step
    (rw c.deref.ensures.value at rw c.in-Err-PromWidth.field-0-is at c.in-Err-PromWidth.ensures.refused)

pub unreachable-requires : goal.unreachable-requires
unreachable-requires g c =
    no_other_count c.args.out.now (declaration_of c.args.decl.now) (g.S.Shelf.state c.args.shelf.now)
    (g.S.Shelf.state c.load_images.new.shelf)
    c.in-Ok.images.items c.prom_count.result c.in-Err-PromCount.field-0-0 c.in-Ok.ensures.step c.prom_count.ensures
    (rw c.deref.ensures.value at rw c.in-Err-PromCount.field-0-is at c.in-Err-PromCount.ensures.refused)
