use Rattle.std.proofs.Common.{◌<◌, ℕ, Result, Ok, Err, OnOk, OnErr, take, sym, subst}
use Rattle.clause_base.specs.Truth.{lits_of, IsSettled}
use Rattle.trail.specs.Assignment.{level_of}
use Rattle.propagate.specs.Standing.{Standing, up_to}
use Rattle.propagate.proofs.Forcing.{AreForced_learn}
use Rattle.propagate.proofs.SettledLevels.{AreSettledBelow_learn}
use Rattle.propagate.proofs.Guarding.{are_guarded_learn}
use Rattle.propagate.proofs.Listed.{laid_learn}
use Rattle.propagate.proofs.board.Board.learn.Goals as goal

either : {T E P Q G : Type 0} (r : Result T E) → OnOk r P → OnErr r Q → (P → G) → (Q → G) → G
either (Ok x) p q f g = f p
either (Err e) p q f g = g q

pub invariant_of-self : goal.invariant_of-self
invariant_of-self c =
    let k = c.self.invariant in
    let clauses = c.self.inside.list.clauses in
    let es = c.self.inside.trail.entries in
    let vars = c.self.inside.list.vars in
    let lists = c.self.inside.watches.lists in
    let pairs = c.self.inside.watches.pairs.items in
    let clause = c.args.clause.now in
    let below : (l : ℕ) → l < level_of es
    → IsSettled (lits_of (up_to l es)) clause =
    subst (λ (b : Standing). (l : ℕ) → l < level_of b.trail.entries → IsSettled (lits_of (up_to l b.trail.entries)) clause)
    (sym c.self.view_is) c.requires.settled in
    either c.add.result c.add.ensures.ok c.add.ensures.err
    (λ grown.
    rw grown (record {
      sound =
          record {
            same_vars = k.sound.same_vars;
            forced = AreForced_learn clauses clause es k.sound.forced;
            settled = AreSettledBelow_learn clauses clause es below k.sound.settled;
          };
      laid = laid_learn vars clauses clause lists pairs k.laid;
      queue = k.queue;
      guarded = are_guarded_learn vars clauses clause lists pairs (take c.self.inside.head es) es k.laid k.guarded;
    }))
    (λ same. rw same k)
