use Rattle.std.proofs.Common.{◌≡◌, ◌+◌, ◌*◌, [], sym, subst, arith}
use Rattle.std.proofs.lemmas.Option.{none-some}
use Rattle.trail.specs.Assignment.{Assignment}
use Rattle.propagate.specs.Standing.{IsSound}
use Rattle.propagate.specs.Queue.{IsQueue}
use Rattle.propagate.proofs.Boards.{laid_none, guarded_none}
use Rattle.propagate.proofs.Guarding.{queue_empty}
use Rattle.propagate.proofs.board.Board.new.Goals as goal

pub invariant_of-result : goal.invariant_of-result
invariant_of-result c =
    let v = c.in_ok-trail.ensures in
    let count = c.vars-vars.result * 2 + 2 in
    let sized : count ≡ 2 * c.args.list.vars + 2 = omega (arith, c.vars-vars.ensures.value) in
    record {
      sound = subst (λ (t : Assignment). IsSound (record { list = c.args.list; trail = t })) (sym v) (record {
        same_vars = c.vars-vars.ensures.value;
        forced = λ i e there implied. absurd (none-some e there);
        settled = λ l lt. absurd (omega (arith, lt));
      });
      laid =
          laid_none c.args.list.vars c.args.list.clauses c.in_ok-lists.lists c.new-pairs.result.items count c.in_ok-lists.ensures sized
          c.new-pairs.ensures.items;
      queue = subst (λ (t : Assignment). IsQueue 0 t.entries) (sym v) (queue_empty []);
      guarded =
          guarded_none c.args.list.clauses c.in_ok-lists.lists c.new-pairs.result.items [] c.in_ok-trail.trail.entries
          c.new-pairs.ensures.items;
    }
