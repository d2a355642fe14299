use Rattle.std.proofs.Common.{◌≡◌, ◌+◌, ◌++◌, [], ◌∷◌, sym, arith, subst, refl}
use Rattle.std.proofs.lemmas.List.Sums.{sum_by_push}
use Rattle.clause_base.specs.Truth.{lits_of, AreSettled}
use Rattle.clause_base.specs.declared.entry.Entry.{Entry}
use Rattle.trail.specs.Assignment.{level_of, step_of}
use Rattle.propagate.specs.Standing.{Standing}
use Rattle.propagate.proofs.Forcing.{AreForced_push}
use Rattle.propagate.proofs.SettledLevels.{AreSettledBelow_decide}
use Rattle.propagate.proofs.Boards.{queue_decide, guarded_decide}
use Rattle.propagate.proofs.board.Board.decide.Goals as goal

pub invariant_of-self : goal.invariant_of-self
invariant_of-self c =
    let k = c.self.invariant in
    let clauses = c.self.inside.list.clauses in
    let es = c.self.inside.trail.entries in
    let e : Entry = record { lit = c.args.lit; level = level_of es + 1; reason = 0 } in
    let now : AreSettled (lits_of es) clauses =
    subst (λ (b : Standing). AreSettled (lits_of b.trail.entries) b.list.clauses) (sym c.self.view_is) c.requires.settled in
    let level : level_of (es ++ e ∷ []) ≡ level_of es + 1 = sum_by_push step_of es e in
    let f = c.forget_unseen in
    rw c.decide.ensures (record {
      sound = record {
        same_vars = k.sound.same_vars;
        forced = AreForced_push clauses es e k.sound.forced (λ implied. absurd (omega arith));
        settled =
            λ l lt. AreSettledBelow_decide c.self.inside.trail.vars clauses es e c.len-ordered.ensures.ordered refl now k.sound.settled
            l (omega (arith, level));
      };
      laid = f.ensures.laid;
      queue = queue_decide es (es ++ e ∷ []) e f.new.head f.ensures.all refl (sym level);
      guarded =
          guarded_decide clauses f.new.watches.lists f.new.watches.pairs.items es (es ++ e ∷ [])
          (e ∷ []) f.new.head f.ensures.all refl f.ensures.guarded;
    })
