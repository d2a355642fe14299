use Rattle.std.proofs.Common.{◌≡◌, ◌+◌, ◌++◌, [], ◌∷◌, ◌<◌, ◌≤◌, ℤ, List, length, refl, sym, ap, subst, ◌∙◌, arith}
use Rattle.std.proofs.lemmas.Option.{same_Some}
use Rattle.clause_base.specs.Lit.{var_of}
use Rattle.clause_base.specs.Truth.{lits_of}
use Rattle.clause_base.specs.declared.entry.Entry.{Entry}
use Rattle.trail.specs.Assignment.{level_of}
use Rattle.propagate.specs.Watching.{IsIn}
use Rattle.propagate.proofs.Attached.{keeps_good, good_at_zero, forced_unit, unit_in, unit_satisfied}
use Rattle.propagate.proofs.Conclusions.{clause_at, in_all}
use Rattle.propagate.proofs.Extending.{Extends_push, level_extends}
use Rattle.propagate.proofs.attaching.imply_for_good.Goals as goal

pub imply-requires-clause-in_range : goal.imply-requires-clause-in_range
imply-requires-clause-in_range c =
    let r = c.requires in
    let vars = c.args.list.now.vars in
    let clause = c.args.clause.now in
    let le : var_of c.args.lit ≤ vars =
    in_all (λ (z : ℤ). var_of z ≤ vars) clause c.args.lit
    (clause_at vars c.args.list.now.clauses (length c.args.watches.now.pairs.items) clause r.valid r.there).in_range
    (unit_in (lits_of c.args.trail.now.entries) clause c.args.lit r.unit) in
    omega (arith, le, r.vars)

pub watch_none-requires-clause-within : goal.watch_none-requires-clause-within
watch_none-requires-clause-within c d there =
    let r = c.requires in
    subst (λ (x : List ℤ). IsIn x c.args.lit) (same_Some c.args.clause.now d (sym r.there ∙ there))
    (unit_in (lits_of c.args.trail.now.entries) c.args.clause.now c.args.lit r.unit)

pub returns-clause-forced : goal.returns-clause-forced
returns-clause-forced c =
    let r = c.requires in
    let es = c.args.trail.now.entries in
    let e : Entry = record { lit = c.args.lit; level = level_of es; reason = c.len.result + 1 } in
    let later : c.imply.new.self.entries ≡ es ++ e ∷ [] = ap (λ t. t.entries) c.imply.ensures.trail in
    let reason : e.reason ≡ length c.args.watches.now.pairs.items + 1 = omega (arith, c.len.ensures, c.args.watches.now.pairs.ok) in
    forced_unit c.args.list.now.clauses es c.imply.new.self.entries e c.args.clause.now
    (length c.args.watches.now.pairs.items) r.forced r.there reason r.unit later

pub returns-clause-guarded : goal.returns-clause-guarded
returns-clause-guarded c =
    let r = c.requires in
    let es = c.args.trail.now.entries in
    let new = c.imply.new.self.entries in
    let clause = c.args.clause.now in
    let e : Entry = record { lit = c.args.lit; level = level_of es; reason = c.len.result + 1 } in
    let later : new ≡ es ++ e ∷ [] = ap (λ t. t.entries) c.imply.ensures.trail in
    let above : 0 < e.reason = omega arith in
    let bottom : level_of new ≡ 0 = ap level_of later ∙ level_extends es (es ++ e ∷ []) (Extends_push es e above refl) ∙ r.bottom in
    keeps_good c.args.list.now.clauses c.args.watches.now.lists c.watch_none.new.watches.lists c.args.watches.now.pairs.items
    c.watch_none.new.watches.pairs.items es new (e ∷ []) clause c.watch_none.ensures.guarded c.watch_none.ensures.lists later r.there
    (good_at_zero c.imply.new.self.vars new clause c.imply.ensures.ordered bottom (unit_satisfied es new e clause r.unit later))
