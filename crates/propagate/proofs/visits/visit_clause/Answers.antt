use Rattle.std.proofs.Common.{◌≡◌, ◌≤◌, ◌<◌, ◌-◌, ◌+◌, ℕ, ℤ, List, length, Some, true, refl, sym, ap, subst, ◌∙◌, arith}
use Rattle.std.specs.Prelude.{slice_get}
use Rattle.std.proofs.lemmas.Option.{slice_get_within, same_Some}
use Rattle.clause_base.specs.Lit.{var_of}
use Rattle.trail.specs.Assignment.{value_of, IsTrail}
use Rattle.propagate.specs.Lists.{list_at}
use Rattle.propagate.specs.Visits.{AreFalseBesides, IsWatchable}
use Rattle.propagate.specs.Watching.{code_of}
use Rattle.propagate.specs.declared.watch_lists.Watch.{Watch}
use Rattle.propagate.proofs.Conclusions.{visited, in_all, code_listed, concluded, passed_true}
use Rattle.propagate.proofs.Listed.{code_apart}
use Rattle.propagate.proofs.Steps.{step_blocker, step_moved}
use Rattle.propagate.proofs.Values.{told_true, told_not_true}
use Rattle.propagate.proofs.visits.visit_clause.Goals as goal

-- the clause of a number is the one at the place before it
numbered : (clauses : List (List ℤ)) (n : ℕ) (clause got : List ℤ) → slice_get clauses n ≡ Some clause
    → slice_get clauses (n + 1 - 1) ≡ Some got → got ≡ clause
numbered clauses n clause got there read =
    let at : n + 1 - 1 ≡ n = omega arith in
    same_Some got clause (sym read ∙ ap (slice_get clauses) at ∙ there)

pub value-requires : goal.value-requires
value-requires c =
    let r = c.requires in
    let v = visited c.args.list.now.vars c.args.list.now.clauses c.args.watches.now.lists c.args.watches.now.pairs.items
    c.args.lit c.args.other c.args.place c.args.watch r.valid r.laid r.in_range r.there r.paired r.partner in
    let le : var_of c.args.other ≤ c.args.list.now.vars = v.other_in_range in
    omega (arith, le, r.vars)

pub set-requires-clause-within : goal.set-requires-clause-within
set-requires-clause-within c =
    rw c.code_of_lit.ensures (slice_get_within
    (list_at c.args.watches.now.lists (code_of c.args.lit)) c.args.place c.args.watch c.requires.there)

pub get-requires : goal.get-requires
get-requires c =
    let r = c.requires in
    let v = visited c.args.list.now.vars c.args.list.now.clauses c.args.watches.now.lists c.args.watches.now.pairs.items
    c.args.lit c.args.other c.args.place c.args.watch r.valid r.laid r.in_range r.there r.paired r.partner in
    let lt : c.args.watch.index < length c.args.list.now.clauses =
    slice_get_within c.args.list.now.clauses c.args.watch.index v.clause v.there in
    (omega arith, omega (arith, lt))

pub hand_on-requires-clause-next_listed : goal.hand_on-requires-clause-next_listed
hand_on-requires-clause-next_listed c =
    let r = c.requires in
    let v = visited c.args.list.now.vars c.args.list.now.clauses c.args.watches.now.lists c.args.watches.now.pairs.items
    c.args.lit c.args.other c.args.place c.args.watch r.valid r.laid r.in_range r.there r.paired r.partner in
    let found = subst (λ (x : List ℤ). IsWatchable c.args.trail.now.entries x c.args.other c.in-Some.next)
    (numbered c.args.list.now.clauses c.args.watch.index v.clause c.get.result.now v.there c.get.ensures.clause) c.in-Some.ensures in
    let le : var_of c.in-Some.next ≤ c.args.list.now.vars =
    in_all (λ (z : ℤ). var_of z ≤ c.args.list.now.vars) v.clause c.in-Some.next v.valid.in_range found.0 in
    code_listed c.args.list.now.vars c.args.watches.now.lists c.in-Some.next le r.laid.sized

pub hand_on-requires-clause-apart : goal.hand_on-requires-clause-apart
hand_on-requires-clause-apart c same =
    let r = c.requires in
    let v = visited c.args.list.now.vars c.args.list.now.clauses c.args.watches.now.lists c.args.watches.now.pairs.items
    c.args.lit c.args.other c.args.place c.args.watch r.valid r.laid r.in_range r.there r.paired r.partner in
    let found = subst (λ (x : List ℤ). IsWatchable c.args.trail.now.entries x c.args.other c.in-Some.next)
    (numbered c.args.list.now.clauses c.args.watch.index v.clause c.get.result.now v.there c.get.ensures.clause) c.in-Some.ensures in
    found.2 (ap (λ z. value_of z c.args.trail.now.entries) (sym (code_apart c.args.lit c.in-Some.next same)) ∙ r.is_false)

pub imply_or_clash-requires-clause-few : goal.imply_or_clash-requires-clause-few
imply_or_clash-requires-clause-few c =
    let r = c.requires in
    let v = visited c.args.list.now.vars c.args.list.now.clauses c.args.watches.now.lists c.args.watches.now.pairs.items
    c.args.lit c.args.other c.args.place c.args.watch r.valid r.laid r.in_range r.there r.paired r.partner in
    let lt : c.args.watch.index < length c.args.list.now.clauses =
    slice_get_within c.args.list.now.clauses c.args.watch.index v.clause v.there in
    omega (arith, lt, c.len-count.ensures)

pub imply_or_clash-requires-clause-in_range : goal.imply_or_clash-requires-clause-in_range
imply_or_clash-requires-clause-in_range c =
    let r = c.requires in
    let v = visited c.args.list.now.vars c.args.list.now.clauses c.args.watches.now.lists c.args.watches.now.pairs.items
    c.args.lit c.args.other c.args.place c.args.watch r.valid r.laid r.in_range r.there r.paired r.partner in
    let le : var_of c.args.other ≤ c.args.list.now.vars = v.other_in_range in
    omega (arith, le, r.vars)

pub returns-then-eq-clause-step : goal.returns-then-eq-clause-step
returns-then-eq-clause-step c =
    let r = c.requires in
    let v = visited c.args.list.now.vars c.args.list.now.clauses c.args.watches.now.lists c.args.watches.now.pairs.items
    c.args.lit c.args.other c.args.place c.args.watch r.valid r.laid r.in_range r.there r.paired r.partner in
    let w = c.args.watch in
    let b : Watch = record { index = w.index; blocker = c.args.other } in
    rw (c.set.ensures, c.code_of_lit.ensures)
    (step_blocker c.args.list.now.vars c.args.list.now.clauses c.args.watches.now.lists c.args.watches.now.pairs.items
    c.args.trail.now.entries c.args.lit c.args.place w b r.laid r.forced v.listed r.there refl
    (record { clause = v.clause; there = v.there; blocker_in = v.other_in }))

pub returns-then-eq-clause-told : goal.returns-then-eq-clause-told
returns-then-eq-clause-told c =
    let r = c.requires in
    let v = visited c.args.list.now.vars c.args.list.now.clauses c.args.watches.now.lists c.args.watches.now.pairs.items
    c.args.lit c.args.other c.args.place c.args.watch r.valid r.laid r.in_range r.there r.paired r.partner in
    let w = c.args.watch in
    let b : Watch = record { index = w.index; blocker = c.args.other } in
    let holds = sym c.value.ensures ∙ told_true c.value.result (sym c.eq.ensures ∙ c.if-eq.true) in
    rw (c.set.ensures, c.code_of_lit.ensures)
    (passed_true c.args.list.now.clauses c.args.watches.now.lists c.args.watches.now.pairs.items c.args.trail.now.entries c.args.lit
    c.args.place w b v.clause c.args.other r.there v.listed refl v.there v.other_in holds)

pub returns-in_ok-hand_on-in-Some-clause-step : goal.returns-in_ok-hand_on-in-Some-clause-step
returns-in_ok-hand_on-in-Some-clause-step c =
    let r = c.requires in
    let v = visited c.args.list.now.vars c.args.list.now.clauses c.args.watches.now.lists c.args.watches.now.pairs.items
    c.args.lit c.args.other c.args.place c.args.watch r.valid r.laid r.in_range r.there r.paired r.partner in
    let found = subst (λ (x : List ℤ). IsWatchable c.args.trail.now.entries x c.args.other c.in-Some.next)
    (numbered c.args.list.now.clauses c.args.watch.index v.clause c.get.result.now v.there c.get.ensures.clause) c.in-Some.ensures in
    let le : var_of c.in-Some.next ≤ c.args.list.now.vars =
    in_all (λ (z : ℤ). var_of z ≤ c.args.list.now.vars) v.clause c.in-Some.next v.valid.in_range found.0 in
    let ordered = subst (λ (n : ℕ). IsTrail n c.args.trail.now.entries) r.vars c.len-ordered.ensures.ordered in
    let next_lt = code_listed c.args.list.now.vars c.args.watches.now.lists c.in-Some.next le r.laid.sized in
    (step_moved c.args.list.now.vars c.args.list.now.clauses c.args.watches.now.lists c.hand_on.new.watches.lists
    c.args.watches.now.pairs.items c.hand_on.new.watches.pairs.items c.args.trail.now.entries c.args.lit c.in-Some.next c.args.other
    c.args.place c.args.watch v.clause ordered r.laid r.forced v.listed next_lt r.there v.there r.partner
    r.paired found.0 v.other_in found.1 v.apart r.is_false found.2 c.in_ok-hand_on-in-Some.ensures.ok).0

pub returns-in_ok-hand_on-in-Some-clause-told : goal.returns-in_ok-hand_on-in-Some-clause-told
returns-in_ok-hand_on-in-Some-clause-told c =
    let r = c.requires in
    let v = visited c.args.list.now.vars c.args.list.now.clauses c.args.watches.now.lists c.args.watches.now.pairs.items
    c.args.lit c.args.other c.args.place c.args.watch r.valid r.laid r.in_range r.there r.paired r.partner in
    let found = subst (λ (x : List ℤ). IsWatchable c.args.trail.now.entries x c.args.other c.in-Some.next)
    (numbered c.args.list.now.clauses c.args.watch.index v.clause c.get.result.now v.there c.get.ensures.clause) c.in-Some.ensures in
    let le : var_of c.in-Some.next ≤ c.args.list.now.vars =
    in_all (λ (z : ℤ). var_of z ≤ c.args.list.now.vars) v.clause c.in-Some.next v.valid.in_range found.0 in
    let ordered = subst (λ (n : ℕ). IsTrail n c.args.trail.now.entries) r.vars c.len-ordered.ensures.ordered in
    let next_lt = code_listed c.args.list.now.vars c.args.watches.now.lists c.in-Some.next le r.laid.sized in
    (step_moved c.args.list.now.vars c.args.list.now.clauses c.args.watches.now.lists c.hand_on.new.watches.lists
    c.args.watches.now.pairs.items c.hand_on.new.watches.pairs.items c.args.trail.now.entries c.args.lit c.in-Some.next c.args.other
    c.args.place c.args.watch v.clause ordered r.laid r.forced v.listed next_lt r.there v.there r.partner
    r.paired found.0 v.other_in found.1 v.apart r.is_false found.2 c.in_ok-hand_on-in-Some.ensures.ok).1

pub returns-in-None-clause-step : goal.returns-in-None-clause-step
returns-in-None-clause-step c =
    let r = c.requires in
    let v = visited c.args.list.now.vars c.args.list.now.clauses c.args.watches.now.lists c.args.watches.now.pairs.items
    c.args.lit c.args.other c.args.place c.args.watch r.valid r.laid r.in_range r.there r.paired r.partner in
    let rest = subst (λ (x : List ℤ). AreFalseBesides c.args.trail.now.entries x c.args.other)
    (numbered c.args.list.now.clauses c.args.watch.index v.clause c.get.result.now v.there c.get.ensures.clause) c.in-None.ensures in
    let not_true = λ (e : value_of c.args.other c.args.trail.now.entries ≡ Some true).
    told_not_true c.value.result (sym c.eq.ensures ∙ c.if-eq.false) (c.value.ensures ∙ e) in
    (concluded c.args.list.now.vars c.args.list.now.clauses c.args.watches.now.lists c.args.watches.now.pairs.items
    c.args.trail.now.entries c.imply_or_clash.new.trail.entries c.args.lit c.args.place c.args.watch v.clause c.args.other r.laid
    r.forced v.there v.valid v.other_in r.there (not_true, rest) c.imply_or_clash.result c.imply_or_clash.ensures.told).0

pub returns-in-None-clause-told : goal.returns-in-None-clause-told
returns-in-None-clause-told c =
    let r = c.requires in
    let v = visited c.args.list.now.vars c.args.list.now.clauses c.args.watches.now.lists c.args.watches.now.pairs.items
    c.args.lit c.args.other c.args.place c.args.watch r.valid r.laid r.in_range r.there r.paired r.partner in
    let rest = subst (λ (x : List ℤ). AreFalseBesides c.args.trail.now.entries x c.args.other)
    (numbered c.args.list.now.clauses c.args.watch.index v.clause c.get.result.now v.there c.get.ensures.clause) c.in-None.ensures in
    let not_true = λ (e : value_of c.args.other c.args.trail.now.entries ≡ Some true).
    told_not_true c.value.result (sym c.eq.ensures ∙ c.if-eq.false) (c.value.ensures ∙ e) in
    (concluded c.args.list.now.vars c.args.list.now.clauses c.args.watches.now.lists c.args.watches.now.pairs.items
    c.args.trail.now.entries c.imply_or_clash.new.trail.entries c.args.lit c.args.place c.args.watch v.clause c.args.other r.laid
    r.forced v.there v.valid v.other_in r.there (not_true, rest) c.imply_or_clash.result c.imply_or_clash.ensures.told).1
