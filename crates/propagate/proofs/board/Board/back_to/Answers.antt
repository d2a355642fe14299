use Rattle.std.proofs.Common.{◌≡◌, ◌≤◌, ℕ, ap, sym, subst, ◌∙◌, arith, List, length, take, min}
use Rattle.clause_base.specs.Truth.{lits_of, AreSettled}
use Rattle.clause_base.specs.declared.entry.Entry.{Entry}
use Rattle.trail.specs.Assignment.{level_of}
use Rattle.propagate.specs.Standing.{up_to}
use Rattle.propagate.proofs.Forcing.{AreForced_front}
use Rattle.propagate.proofs.SettledLevels.{AreSettledBelow_back}
use Rattle.propagate.specs.Queue.{IsQueue}
use Rattle.propagate.specs.Watching.{AreGuarded}
use Rattle.propagate.proofs.Boards.{queue_back, guarded_back_to}
use Rattle.propagate.proofs.board.Board.back_to.Goals as goal

pub invariant_of-self : goal.invariant_of-self
invariant_of-self c =
    let k = c.self.invariant in
    let e = c.back_to.ensures in
    let clauses = c.self.inside.list.clauses in
    let es = c.self.inside.trail.entries in
    let front = c.back_to.new.self.entries in
    let le : c.args.level ≤ level_of es = omega (arith, c.requires, ap (λ b. level_of b.trail.entries) c.self.view_is) in
    let i = c.self.inside in
    let vars = i.trail.vars in
    let lists = i.watches.lists in
    let pairs = i.watches.pairs.items in
    let t = c.len-ordered.ensures.ordered in
    let next : c.min-self-inside.result ≡ min i.head (length front) = c.min-self-inside.ensures ∙ ap (min i.head) c.len.ensures.len in
    record {
      sound = record {
        same_vars = e.vars ∙ k.sound.same_vars;
        forced = AreForced_front clauses es front e.front k.sound.forced;
        settled =
            λ l lt. subst (λ (xs : List Entry). AreSettled (lits_of (up_to l xs)) clauses) (sym e.kept)
            (AreSettledBelow_back clauses es c.args.level le k.sound.settled l (omega (arith, e.level)));
      };
      laid = k.laid;
      queue = subst (λ (h : ℕ). IsQueue h front) (sym next) (queue_back vars es front i.head c.args.level t k.queue le e.kept e.front);
      guarded =
          subst (λ (h : ℕ). AreGuarded clauses lists pairs (take h front) front) (sym next)
          (guarded_back_to vars clauses lists pairs es front i.head c.args.level t k.queue le e.kept e.front k.guarded);
    }
