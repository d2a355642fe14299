use Rattle.std.proofs.Common.{[], ◌∷◌, ◌++◌, Result, Ok, Err, OnErr}
use Rattle.propagate.proofs.ListChanges.{list_changed, list_kept}
use Rattle.propagate.proofs.watch_lists.WatchLists.push.Goals as goal

anyway : {T E P : Type 0} (r : Result T E) → P → OnErr r P
anyway (Ok x) p = tt
anyway (Err e) p = p

pub returns-in_err-push-clause-err : goal.returns-in_err-push-clause-err
returns-in_err-push-clause-err c =
    anyway c.from_residual.result (list_kept
    (λ v. v.items) c.self.inside.lists.items c.args.self.now c.args.code c.index_mut-list.result.now c.push.new.self c.self.view_is
    c.requires c.index_mut-list.ensures.value c.in_err-push.ensures.items)

pub returns-clause-ok : goal.returns-clause-ok
returns-clause-ok c =
    list_changed (λ v. v.items) c.self.inside.lists.items c.args.self.now c.args.code c.index_mut-list.result.now c.push.new.self
    (λ xs. xs ++ c.args.watch ∷ []) c.self.view_is c.requires c.index_mut-list.ensures.value c.in_ok-push.ensures.items
