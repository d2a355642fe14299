use Rattle.std.proofs.Common.{◌≡◌, [], None, sym, ap, ◌∙◌}
use Rattle.std.proofs.lemmas.List.{append-nil}
use Rattle.trail.specs.Assignment.{value_of}
use Rattle.propagate.proofs.Attached.{keeps_watched}
use Rattle.propagate.proofs.Guarding.{guarded_free}
use Rattle.propagate.proofs.attaching.attach_two.Goals as goal

pub returns-clause-guarded : goal.returns-clause-guarded
returns-clause-guarded c =
    let es = c.args.trail.now.entries in
    let clause = c.args.clause.now in
    let t = c.requires.two.0 in
    let first_free : value_of c.args.first es ≡ None = ap (λ z. value_of z es) (sym c.requires.two.1) ∙ t.unassigned in
    let second_free : value_of c.args.second es ≡ None = ap (λ z. value_of z es) (sym c.requires.two.2) ∙ t.too in
    keeps_watched c.args.list.now.clauses c.args.watches.now.lists c.watch_two.new.watches.lists c.args.watches.now.pairs.items
    c.watch_two.new.watches.pairs.items es es [] clause c.args.first c.args.second c.watch_two.ensures.guarded
    (sym (append-nil es)) c.requires.there
    (λ head. (guarded_free es head clause c.args.first first_free, guarded_free es head clause c.args.second second_free))
