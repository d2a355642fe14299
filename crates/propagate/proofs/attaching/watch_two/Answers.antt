use Rattle.std.proofs.Common.{◌≡◌, List, length, refl, sym, subst, arith}
use Rattle.propagate.specs.Watching.{AreLaid, AreGuarded}
use Rattle.propagate.specs.declared.watch_lists.Watch.{Watch}
use Rattle.propagate.specs.declared.pairs.Pair.{Pair}
use Rattle.propagate.proofs.Attached.{pushed, paired_laid, paired_watched}
use Rattle.propagate.proofs.Guarding.{are_guarded_lists}
use Rattle.propagate.proofs.attaching.watch_two.Goals as goal

pub returns-in_err-push-2-clause-laid : goal.returns-in_err-push-2-clause-laid
returns-in_err-push-2-clause-laid c =
    let r = c.requires in
    let vars = c.args.list.now.vars in
    let clauses = c.args.list.now.clauses in
    let lists = c.args.watches.now.lists in
    let pairs = c.args.watches.now.pairs.items in
    let one = c.push.new.self in
    let w : Watch = record { index = c.len-index.result; blocker = c.args.second } in
    let index_is : c.len-index.result ≡ length pairs = omega (arith, c.len-index.ensures, c.args.watches.now.pairs.ok) in
    let a = pushed vars clauses lists one pairs c.args.first c.args.second c.code_of_lit.result w r.laid r.few r.first_in_range
    (λ d there. (r.within d there).1) index_is refl c.code_of_lit.ensures c.in_ok-push.ensures.ok in
    subst (λ (ls : List (List Watch)). AreLaid vars clauses ls pairs) (sym c.in_err-push-2.ensures.err) a.laid

pub returns-in_err-push-2-clause-guarded : goal.returns-in_err-push-2-clause-guarded
returns-in_err-push-2-clause-guarded c seen es own k =
    let r = c.requires in
    let vars = c.args.list.now.vars in
    let clauses = c.args.list.now.clauses in
    let lists = c.args.watches.now.lists in
    let pairs = c.args.watches.now.pairs.items in
    let one = c.push.new.self in
    let w : Watch = record { index = c.len-index.result; blocker = c.args.second } in
    let index_is : c.len-index.result ≡ length pairs = omega (arith, c.len-index.ensures, c.args.watches.now.pairs.ok) in
    let a = pushed vars clauses lists one pairs c.args.first c.args.second c.code_of_lit.result w r.laid r.few r.first_in_range
    (λ d there. (r.within d there).1) index_is refl c.code_of_lit.ensures c.in_ok-push.ensures.ok in
    subst (λ (ls : List (List Watch)). AreGuarded clauses ls pairs seen es) (sym c.in_err-push-2.ensures.err)
    (are_guarded_lists clauses lists one pairs seen es a.keeps k)

pub returns-in_err-push-3-clause-laid : goal.returns-in_err-push-3-clause-laid
returns-in_err-push-3-clause-laid c =
    let r = c.requires in
    let vars = c.args.list.now.vars in
    let clauses = c.args.list.now.clauses in
    let lists = c.args.watches.now.lists in
    let pairs = c.args.watches.now.pairs.items in
    let one = c.push.new.self in
    let w : Watch = record { index = c.len-index.result; blocker = c.args.second } in
    let index_is : c.len-index.result ≡ length pairs = omega (arith, c.len-index.ensures, c.args.watches.now.pairs.ok) in
    let a = pushed vars clauses lists one pairs c.args.first c.args.second c.code_of_lit.result w r.laid r.few r.first_in_range
    (λ d there. (r.within d there).1) index_is refl c.code_of_lit.ensures c.in_ok-push.ensures.ok in
    let two = c.push-2.new.self in
    let v : Watch = record { index = c.len-index.result; blocker = c.args.first } in
    let b = pushed vars clauses one two pairs c.args.second c.args.first c.code_of_lit-2.result v a.laid r.few r.second_in_range
    (λ d there. (r.within d there).0) index_is refl c.code_of_lit-2.ensures c.in_ok-push-2.ensures.ok in
    subst (λ (ps : List Pair). AreLaid vars clauses two ps) (sym c.in_err-push-3.ensures.items) b.laid

pub returns-in_err-push-3-clause-guarded : goal.returns-in_err-push-3-clause-guarded
returns-in_err-push-3-clause-guarded c seen es own k =
    let r = c.requires in
    let vars = c.args.list.now.vars in
    let clauses = c.args.list.now.clauses in
    let lists = c.args.watches.now.lists in
    let pairs = c.args.watches.now.pairs.items in
    let one = c.push.new.self in
    let w : Watch = record { index = c.len-index.result; blocker = c.args.second } in
    let index_is : c.len-index.result ≡ length pairs = omega (arith, c.len-index.ensures, c.args.watches.now.pairs.ok) in
    let a = pushed vars clauses lists one pairs c.args.first c.args.second c.code_of_lit.result w r.laid r.few r.first_in_range
    (λ d there. (r.within d there).1) index_is refl c.code_of_lit.ensures c.in_ok-push.ensures.ok in
    let two = c.push-2.new.self in
    let v : Watch = record { index = c.len-index.result; blocker = c.args.first } in
    let b = pushed vars clauses one two pairs c.args.second c.args.first c.code_of_lit-2.result v a.laid r.few r.second_in_range
    (λ d there. (r.within d there).0) index_is refl c.code_of_lit-2.ensures c.in_ok-push-2.ensures.ok in
    subst (λ (ps : List Pair). AreGuarded clauses two ps seen es) (sym c.in_err-push-3.ensures.items)
    (are_guarded_lists clauses lists two pairs seen es (λ n y l. b.keeps n y (a.keeps n y l)) k)

pub returns-clause-laid : goal.returns-clause-laid
returns-clause-laid c =
    let r = c.requires in
    let vars = c.args.list.now.vars in
    let clauses = c.args.list.now.clauses in
    let lists = c.args.watches.now.lists in
    let pairs = c.args.watches.now.pairs.items in
    let one = c.push.new.self in
    let w : Watch = record { index = c.len-index.result; blocker = c.args.second } in
    let index_is : c.len-index.result ≡ length pairs = omega (arith, c.len-index.ensures, c.args.watches.now.pairs.ok) in
    let a = pushed vars clauses lists one pairs c.args.first c.args.second c.code_of_lit.result w r.laid r.few r.first_in_range
    (λ d there. (r.within d there).1) index_is refl c.code_of_lit.ensures c.in_ok-push.ensures.ok in
    let two = c.push-2.new.self in
    let v : Watch = record { index = c.len-index.result; blocker = c.args.first } in
    let b = pushed vars clauses one two pairs c.args.second c.args.first c.code_of_lit-2.result v a.laid r.few r.second_in_range
    (λ d there. (r.within d there).0) index_is refl c.code_of_lit-2.ensures c.in_ok-push-2.ensures.ok in
    let p : Pair = record { first = c.args.first; second = c.args.second } in
    paired_laid vars clauses two pairs c.push-3.new.self.items p b.laid r.few r.within c.in_ok-push-3.ensures.items

pub returns-clause-guarded : goal.returns-clause-guarded
returns-clause-guarded c =
    let r = c.requires in
    let vars = c.args.list.now.vars in
    let clauses = c.args.list.now.clauses in
    let lists = c.args.watches.now.lists in
    let pairs = c.args.watches.now.pairs.items in
    let one = c.push.new.self in
    let w : Watch = record { index = c.len-index.result; blocker = c.args.second } in
    let index_is : c.len-index.result ≡ length pairs = omega (arith, c.len-index.ensures, c.args.watches.now.pairs.ok) in
    let a = pushed vars clauses lists one pairs c.args.first c.args.second c.code_of_lit.result w r.laid r.few r.first_in_range
    (λ d there. (r.within d there).1) index_is refl c.code_of_lit.ensures c.in_ok-push.ensures.ok in
    let two = c.push-2.new.self in
    let v : Watch = record { index = c.len-index.result; blocker = c.args.first } in
    let b = pushed vars clauses one two pairs c.args.second c.args.first c.code_of_lit-2.result v a.laid r.few r.second_in_range
    (λ d there. (r.within d there).0) index_is refl c.code_of_lit-2.ensures c.in_ok-push-2.ensures.ok in
    let p : Pair = record { first = c.args.first; second = c.args.second } in
    paired_watched vars clauses lists one two pairs c.push-3.new.self.items p r.few r.apart a b c.in_ok-push-3.ensures.items
