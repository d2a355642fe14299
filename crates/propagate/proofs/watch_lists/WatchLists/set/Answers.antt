use Rattle.std.proofs.Common.{set, refl}
use Rattle.std.specs.Vec.{with_item}
use Rattle.propagate.proofs.ListChanges.{list_changed}
use Rattle.propagate.proofs.watch_lists.WatchLists.set.Goals as goal

pub returns : goal.returns
returns c =
    list_changed (λ v. v.items) c.self.inside.lists.items c.args.self.now c.args.code c.index_mut-list.result.now
    (with_item c.index_mut-list.result.now c.args.place c.args.watch)
    (λ xs. set xs c.args.place c.args.watch) c.self.view_is c.requires.listed c.index_mut-list.ensures.value refl
