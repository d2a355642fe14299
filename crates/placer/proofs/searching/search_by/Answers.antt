use Rattle.std.proofs.Common.{◌≡◌, ◌≢◌, ◌≤◌, ◌+◌, ℕ, List, length, sym, ap, subst, ◌∙◌, arith}
use Rattle.std.specs.Prelude.{IfOk}
use Rattle.std.proofs.lemmas.List.{length_push}
use Rattle.clause_base.specs.Truth.{lits_of, AreSettled}
use Rattle.clause_base.specs.declared.entry.Entry.{Entry}
use Rattle.trail.specs.Assignment.{level_of}
use Rattle.propagate.specs.Standing.{Standing}
use Rattle.propagate.specs.Propagation.{Ends}
use Rattle.propagate.specs.declared.board.Settled.{Settled}
use Rattle.placer.specs.Answer.{Stands}
use Rattle.placer.specs.Progress.{HasHints, Learns}
use Rattle.placer.proofs.Growing.{HasHints_none, HasHints_list, HasHints_push, smaller_push}
use Rattle.placer.proofs.HintLines.{length_hints_le}
use Rattle.placer.proofs.KnownPlaces.{IsReady_settled, IsReady_decided}
use Rattle.placer.proofs.SettledModel.{IsModel-settled}
use Rattle.placer.proofs.searching.search_by.Goals as goal

pub turns-init : goal.turns-init
turns-init c = record {
  learned = subst (λ (hints : List (List ℕ)). HasHints c.args.list c.in_ok-board.board hints) (sym c.new-hints.ensures.items)
      (HasHints_none c.args.list c.in_ok-board.board (ap (λ (b : Standing). b.list) c.in_ok-board.ensures));
  few = omega (arith, ap length c.new-hints.ensures.items);
  ready = c.in_ok-workspace.ensures;
}

pub refuted-requires-clause-counted : goal.refuted-requires-clause-counted
refuted-requires-clause-counted c =
    length_hints_le c.args.list c.settle.new.self c.turns.hints.items
    (HasHints_list c.args.list c.turns.board c.settle.new.self c.turns.hints.items c.turns.invariant.learned
    c.in_ok-settled.ensures.list)

pub undecided-requires-clause-counted : goal.undecided-requires-clause-counted
undecided-requires-clause-counted c =
    length_hints_le c.args.list c.settle.new.self c.turns.hints.items
    (HasHints_list c.args.list c.turns.board c.settle.new.self c.turns.hints.items c.turns.invariant.learned
    c.in_ok-settled.ensures.list)

pub returns-then-level-eq0-clause-stands : goal.returns-then-level-eq0-clause-stands
returns-then-level-eq0-clause-stands c =
    let k : HasHints c.args.list c.settle.new.self c.turns.hints.items =
    HasHints_list c.args.list c.turns.board c.settle.new.self c.turns.hints.items c.turns.invariant.learned
    c.in_ok-settled.ensures.list in
    c.refuted.ensures.stands c.args.list c.args.budget k c.turns.invariant.few

pub returns-then-len-budget-clause-stands : goal.returns-then-len-budget-clause-stands
returns-then-len-budget-clause-stands c =
    let k : HasHints c.args.list c.settle.new.self c.turns.hints.items =
    HasHints_list c.args.list c.turns.board c.settle.new.self c.turns.hints.items c.turns.invariant.learned
    c.in_ok-settled.ensures.list in
    let count : length c.turns.hints.items ≡ c.args.budget = omega (arith, c.turns.hints.ok, c.len.ensures, c.if-len-budget.true) in
    subst (λ (n : ℕ). IfOk c.undecided.result (Stands c.args.list n)) count (c.undecided.ensures.stands c.args.list k)

pub returns-then-len-budget-clause-decided : goal.returns-then-len-budget-clause-decided
returns-then-len-budget-clause-decided c = λ enough.
    let k : HasHints c.args.list c.settle.new.self c.turns.hints.items =
    HasHints_list c.args.list c.turns.board c.settle.new.self c.turns.hints.items c.turns.invariant.learned
    c.in_ok-settled.ensures.list in
    let count : length c.turns.hints.items ≡ c.args.budget = omega (arith, c.turns.hints.ok, c.len.ensures, c.if-len-budget.true) in
    c.undecided.ensures.few c.args.list k (omega (arith, count, enough))

pub learn_from-requires-clause-ready : goal.learn_from-requires-clause-ready
learn_from-requires-clause-ready c = IsReady_settled c.turns.board c.settle.new.self c.turns.workspace c.turns.invariant.ready
    c.in_ok-settled.ensures.list c.in_ok-settled.ensures.extends

pub turns-preserved : goal.turns-preserved
turns-preserved c =
    let b = c.settle.new.self in
    let d : Entry = record { lit = c.in-Some.lit; level = level_of b.trail.entries + 1; reason = 0 } in
    let k : HasHints c.args.list b c.turns.hints.items =
    HasHints_list c.args.list c.turns.board b c.turns.hints.items c.turns.invariant.learned c.in_ok-settled.ensures.list in
    let r = IsReady_settled c.turns.board b c.turns.workspace c.turns.invariant.ready c.in_ok-settled.ensures.list
    c.in_ok-settled.ensures.extends in
    record {
      learned = HasHints_list c.args.list b c.decide.new.self c.turns.hints.items k c.decide.ensures.list;
      few = c.turns.invariant.few;
      ready = IsReady_decided b c.decide.new.self c.turns.workspace d r c.decide.ensures.list c.decide.ensures.trail;
    }

pub turns-preserved-in_ok-learn_from-in-Conflict : goal.turns-preserved-in_ok-learn_from-in-Conflict
turns-preserved-in_ok-learn_from-in-Conflict c =
    let b = c.settle.new.self in
    let k : HasHints c.args.list b c.turns.hints.items =
    HasHints_list c.args.list c.turns.board b c.turns.hints.items c.turns.invariant.learned c.in_ok-settled.ensures.list in
    let r = HasHints_push c.args.list b c.learn_from.new.board c.turns.hints.items c.learn_from.new.hints.items k
    c.in_ok-learn_from-in-Conflict.ensures.learns in
    let grown : length c.learn_from.new.hints.items ≡ length c.turns.hints.items + 1 = r.1 in
    let few : length c.turns.hints.items ≤ c.args.budget = c.turns.invariant.few in
    let ne : c.len.result ≢ c.args.budget = c.if-len-budget.false in
    let is : c.len.result ≡ length c.turns.hints.items = omega (arith, c.len.ensures, c.turns.hints.ok) in
    record { learned = r.0; few = omega arith; ready = c.in_ok-learn_from-in-Conflict.ensures.ready }

pub turns-smaller-in_ok-learn_from-in-Conflict : goal.turns-smaller-in_ok-learn_from-in-Conflict
turns-smaller-in_ok-learn_from-in-Conflict c =
    let n = length c.turns.hints.items in
    let l : Learns c.settle.new.self c.learn_from.new.board c.turns.hints.items c.learn_from.new.hints.items =
    c.in_ok-learn_from-in-Conflict.ensures.learns in
    let few : length c.turns.hints.items ≤ c.args.budget = c.turns.invariant.few in
    let ne : c.len.result ≢ c.args.budget = c.if-len-budget.false in
    let is : c.len.result ≡ length c.turns.hints.items = omega (arith, c.len.ensures, c.turns.hints.ok) in
    smaller_push c.args.budget n (length c.learn_from.new.hints.items) c.turns.board.trail.vars c.learn_from.new.board.trail.vars
    (length c.learn_from.new.board.trail.entries) (length c.turns.board.trail.entries)
    (ap length l.grown ∙ length_push c.turns.hints.items l.line.hints) (omega arith) (l.vars ∙ c.in_ok-settled.ensures.vars)

pub returns-in-None-clause-stands : goal.returns-in-None-clause-stands
returns-in-None-clause-stands c =
    let b = c.settle.new.self in
    let k : HasHints c.args.list b c.turns.hints.items =
    HasHints_list c.args.list c.turns.board b c.turns.hints.items c.turns.invariant.learned c.in_ok-settled.ensures.list in
    let done : AreSettled (lits_of b.trail.entries) b.list.clauses =
    subst (λ (s : Settled). Ends b s) c.in-Done.is c.in_ok-settled.ensures.ends in
    IsModel-settled c.args.list b k.lines c.in_ok-truths_of-in-None.field-0 k.learned c.list-clauses.ensures.valid done c.in-None.ensures.all
    c.in_ok-truths_of-in-None.ensures.sized c.in_ok-truths_of-in-None.ensures.each
