use Rattle.std.specs.List.{swap_remove}
use Rattle.propagate.proofs.ListChanges.{list_changed}
use Rattle.propagate.proofs.watch_lists.WatchLists.take_out.Goals as goal

pub returns-clause-left : goal.returns-clause-left
returns-clause-left c =
    list_changed (λ v. v.items) c.self.inside.lists.items c.args.self.now c.args.code c.index_mut-list.result.now
    c.swap_remove.new.self (λ xs. swap_remove xs c.args.place c.swap_remove.result) c.self.view_is c.requires.listed
    c.index_mut-list.ensures.value c.swap_remove.ensures.items
