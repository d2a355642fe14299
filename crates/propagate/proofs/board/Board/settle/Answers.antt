use Rattle.std.proofs.Common.{ap, ◌∙◌, sym, subst}
use Rattle.std.specs.Prelude.{All}
use Rattle.clause_base.specs.Clauses.{Clauses, IsClause}
use Rattle.trail.specs.Assignment.{level_of}
use Rattle.propagate.specs.Standing.{Standing, AreSettledBelow}
use Rattle.propagate.specs.Propagation.{Extends}
use Rattle.propagate.proofs.Extending.{Extends_trans, level_extends}
use Rattle.propagate.proofs.SettledLevels.{AreSettledBelow_extends}
use Rattle.propagate.proofs.board.Board.settle.Goals as goal

pub turn-requires-clause-valid : goal.turn-requires-clause-valid
turn-requires-clause-valid c =
    subst (λ (l : Clauses). All (IsClause l.vars) l.clauses) (sym c.turns.invariant.list) c.vars-vars.ensures.valid

pub invariant_of-self : goal.invariant_of-self
invariant_of-self c =
    let k = c.turns.invariant in
    let e = c.turn.ensures in
    let first = c.self.inside.trail.entries in
    let new = c.turn.new.trail.entries in
    let x : Extends first new = Extends_trans first c.turns.self-inside.trail.entries new k.extends e.extends in
    record {
      sound = record {
        same_vars = e.vars ∙ k.same_vars;
        forced = e.forced;
        settled =
            AreSettledBelow_extends c.turns.self-inside.list.clauses first new x
            (subst (λ (l : Clauses). AreSettledBelow l.clauses first) (sym k.list) c.self.invariant.sound.settled);
      };
      laid = e.laid;
      queue = e.queue;
      guarded = e.guarded;
    }

pub invariant_of-self-in-Conflict : goal.invariant_of-self-in-Conflict
invariant_of-self-in-Conflict c =
    let k = c.turns.invariant in
    let e = c.turn.ensures in
    let first = c.self.inside.trail.entries in
    let new = c.turn.new.trail.entries in
    let x : Extends first new = Extends_trans first c.turns.self-inside.trail.entries new k.extends e.extends in
    record {
      sound = record {
        same_vars = e.vars ∙ k.same_vars;
        forced = e.forced;
        settled =
            AreSettledBelow_extends c.turns.self-inside.list.clauses first new x
            (subst (λ (l : Clauses). AreSettledBelow l.clauses first) (sym k.list) c.self.invariant.sound.settled);
      };
      laid = e.laid;
      queue = e.queue;
      guarded = e.guarded;
    }

pub invariant_of-self-in-Quiet : goal.invariant_of-self-in-Quiet
invariant_of-self-in-Quiet c =
    let k = c.turns.invariant in
    let e = c.turn.ensures in
    let first = c.self.inside.trail.entries in
    let new = c.turn.new.trail.entries in
    let x : Extends first new = Extends_trans first c.turns.self-inside.trail.entries new k.extends e.extends in
    record {
      sound = record {
        same_vars = e.vars ∙ k.same_vars;
        forced = e.forced;
        settled =
            AreSettledBelow_extends c.turns.self-inside.list.clauses first new x
            (subst (λ (l : Clauses). AreSettledBelow l.clauses first) (sym k.list) c.self.invariant.sound.settled);
      };
      laid = e.laid;
      queue = e.queue;
      guarded = e.guarded;
    }

pub turns-preserved : goal.turns-preserved
turns-preserved c =
    let k = c.turns.invariant in
    let e = c.turn.ensures in
    let first = c.self.inside.trail.entries in
    let new = c.turn.new.trail.entries in
    let x : Extends first new = Extends_trans first c.turns.self-inside.trail.entries new k.extends e.extends in
    record {
      list = k.list;
      old_vars = e.vars ∙ k.old_vars;
      same_vars = e.vars ∙ k.same_vars;
      forced = e.forced;
      extends = x;
      laid = e.laid;
      queue = e.queue;
      guarded = e.guarded;
    }

pub returns-in_err-turn-clause-extends : goal.returns-in_err-turn-clause-extends
returns-in_err-turn-clause-extends c =
    let k = c.turns.invariant in
    let e = c.turn.ensures in
    let first = c.self.inside.trail.entries in
    let new = c.turn.new.trail.entries in
    let x : Extends first new = Extends_trans first c.turns.self-inside.trail.entries new k.extends e.extends in
    subst (λ (b : Standing). Extends b.trail.entries new) c.self.view_is x

pub returns-in_err-turn-clause-level : goal.returns-in_err-turn-clause-level
returns-in_err-turn-clause-level c =
    let k = c.turns.invariant in
    let e = c.turn.ensures in
    let first = c.self.inside.trail.entries in
    let new = c.turn.new.trail.entries in
    let x : Extends first new = Extends_trans first c.turns.self-inside.trail.entries new k.extends e.extends in
    level_extends first new x ∙ ap (λ b. level_of b.trail.entries) c.self.view_is

pub returns-in-Quiet-clause-extends : goal.returns-in-Quiet-clause-extends
returns-in-Quiet-clause-extends c =
    let k = c.turns.invariant in
    let e = c.turn.ensures in
    let first = c.self.inside.trail.entries in
    let new = c.turn.new.trail.entries in
    let x : Extends first new = Extends_trans first c.turns.self-inside.trail.entries new k.extends e.extends in
    subst (λ (b : Standing). Extends b.trail.entries new) c.self.view_is x

pub returns-in-Quiet-clause-level : goal.returns-in-Quiet-clause-level
returns-in-Quiet-clause-level c =
    let k = c.turns.invariant in
    let e = c.turn.ensures in
    let first = c.self.inside.trail.entries in
    let new = c.turn.new.trail.entries in
    let x : Extends first new = Extends_trans first c.turns.self-inside.trail.entries new k.extends e.extends in
    level_extends first new x ∙ ap (λ b. level_of b.trail.entries) c.self.view_is

pub returns-in-Conflict-clause-extends : goal.returns-in-Conflict-clause-extends
returns-in-Conflict-clause-extends c =
    let k = c.turns.invariant in
    let e = c.turn.ensures in
    let first = c.self.inside.trail.entries in
    let new = c.turn.new.trail.entries in
    let x : Extends first new = Extends_trans first c.turns.self-inside.trail.entries new k.extends e.extends in
    subst (λ (b : Standing). Extends b.trail.entries new) c.self.view_is x

pub returns-in-Conflict-clause-level : goal.returns-in-Conflict-clause-level
returns-in-Conflict-clause-level c =
    let k = c.turns.invariant in
    let e = c.turn.ensures in
    let first = c.self.inside.trail.entries in
    let new = c.turn.new.trail.entries in
    let x : Extends first new = Extends_trans first c.turns.self-inside.trail.entries new k.extends e.extends in
    level_extends first new x ∙ ap (λ b. level_of b.trail.entries) c.self.view_is
