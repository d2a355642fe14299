use Rattle.std.proofs.Common.{◌≡◌, ◌+◌, ◌++◌, [], ◌∷◌, ◌<◌, ◌≤◌, ℤ, List, length, Some, false, refl, sym, ap, subst, ◌∙◌, arith}
use Rattle.std.proofs.lemmas.Option.{same_Some, none-some}
use Rattle.clause_base.specs.Lit.{var_of}
use Rattle.clause_base.specs.Truth.{lits_of}
use Rattle.clause_base.specs.declared.entry.Entry.{Entry}
use Rattle.trail.specs.Assignment.{level_of, value_of}
use Rattle.propagate.specs.Watching.{IsIn}
use Rattle.propagate.proofs.Attached.{keeps_watched, guards_beside, forced_unit, unit_in}
use Rattle.propagate.proofs.Conclusions.{clause_at, in_all}
use Rattle.propagate.proofs.Values.{false_there}
use Rattle.propagate.proofs.attaching.imply_beside.Goals as goal

pub imply-requires-clause-in_range : goal.imply-requires-clause-in_range
imply-requires-clause-in_range c =
    let r = c.requires in
    let vars = c.args.list.now.vars in
    let clause = c.args.clause.now in
    let le : var_of c.args.lit ≤ vars =
    in_all (λ (z : ℤ). var_of z ≤ vars) clause c.args.lit
    (clause_at vars c.args.list.now.clauses (length c.args.watches.now.pairs.items) clause r.valid r.there).in_range
    (unit_in (lits_of c.args.trail.now.entries) clause c.args.lit r.unit) in
    omega (arith, le, r.vars)

pub watch_two-requires-clause-first_in_range : goal.watch_two-requires-clause-first_in_range
watch_two-requires-clause-first_in_range c =
    let r = c.requires in
    let vars = c.args.list.now.vars in
    let clause = c.args.clause.now in
    in_all (λ (z : ℤ). var_of z ≤ vars) clause c.args.lit
    (clause_at vars c.args.list.now.clauses (length c.args.watches.now.pairs.items) clause r.valid r.there).in_range
    (unit_in (lits_of c.args.trail.now.entries) clause c.args.lit r.unit)

pub watch_two-requires-clause-second_in_range : goal.watch_two-requires-clause-second_in_range
watch_two-requires-clause-second_in_range c =
    let r = c.requires in
    let vars = c.args.list.now.vars in
    let clause = c.args.clause.now in
    in_all (λ (z : ℤ). var_of z ≤ vars) clause c.args.other
    (clause_at vars c.args.list.now.clauses (length c.args.watches.now.pairs.items) clause r.valid r.there).in_range r.within

pub watch_two-requires-clause-within : goal.watch_two-requires-clause-within
watch_two-requires-clause-within c d there =
    let r = c.requires in
    let same = same_Some c.args.clause.now d (sym r.there ∙ there) in (
      subst (λ (x : List ℤ). IsIn x c.args.lit) same (unit_in (lits_of c.args.trail.now.entries) c.args.clause.now c.args.lit r.unit),
      subst (λ (x : List ℤ). IsIn x c.args.other) same r.within,
    )

pub watch_two-requires-clause-apart : goal.watch_two-requires-clause-apart
watch_two-requires-clause-apart c same =
    let r = c.requires in
    let es = c.args.trail.now.entries in
    let f = r.present in
    let is_false : value_of c.args.other es ≡ Some false = ap (λ z. value_of z es) f.negates
    ∙ false_there c.args.trail.now.vars es f.place f.entry c.level-level.ensures.ordered f.there in
    none-some false (sym r.unit.unassigned ∙ ap (λ z. value_of z es) same ∙ is_false)

pub returns-clause-forced : goal.returns-clause-forced
returns-clause-forced c =
    let r = c.requires in
    let es = c.args.trail.now.entries in
    let e : Entry = record { lit = c.args.lit; level = level_of es; reason = c.len.result + 1 } in
    let later : c.imply.new.self.entries ≡ es ++ e ∷ [] = ap (λ t. t.entries) c.imply.ensures.trail in
    let reason : e.reason ≡ length c.args.watches.now.pairs.items + 1 = omega (arith, c.len.ensures, c.args.watches.now.pairs.ok) in
    forced_unit c.args.list.now.clauses es c.imply.new.self.entries e c.args.clause.now
    (length c.args.watches.now.pairs.items) r.forced r.there reason r.unit later

pub returns-clause-guarded : goal.returns-clause-guarded
returns-clause-guarded c =
    let r = c.requires in
    let es = c.args.trail.now.entries in
    let new = c.imply.new.self.entries in
    let clause = c.args.clause.now in
    let e : Entry = record { lit = c.args.lit; level = level_of es; reason = c.len.result + 1 } in
    let later : new ≡ es ++ e ∷ [] = ap (λ t. t.entries) c.imply.ensures.trail in
    let above : 0 < e.reason = omega arith in
    keeps_watched c.args.list.now.clauses c.args.watches.now.lists c.watch_two.new.watches.lists c.args.watches.now.pairs.items
    c.watch_two.new.watches.pairs.items es new (e ∷ []) clause c.args.lit c.args.other c.watch_two.ensures.guarded later r.there
    (guards_beside c.imply.new.self.vars es new e clause c.args.other c.level-level.ensures.levelled c.imply.ensures.ordered
    above refl r.unit later r.present)
