use Rattle.std.proofs.Common.{◌≡◌, ◌<◌, ◌≤◌, ◌+◌, ◌-◌, ℕ, ℤ, List, false, length, refl, sym, ap, subst, ◌∙◌, arith}
use Rattle.std.specs.Prelude.{All}
use Rattle.std.proofs.lemmas.List.{length-replicate}
use Rattle.clause_base.specs.Truth.{lits_of, IsNumbered, IsFalse}
use Rattle.trail.specs.Assignment.{Assignment, level_of}
use Rattle.trail.proofs.Levels.{level-le}
use Rattle.placer.specs.Marking.{IsWithin, Lowers, IsAtPlace}
use Rattle.placer.proofs.Resolving.{within_false}
use Rattle.placer.proofs.Starting.{at_last}
use Rattle.placer.proofs.BoardParts.{same_clause}
use Rattle.placer.proofs.conflict_analysis.first_point.Goals as goal

pub mark_clause-requires : goal.mark_clause-requires
mark_clause-requires c =
    let b = c.args.board.now in
    let t = c.trail-trail.ensures.ordered in
    let is = same_clause b.list c.list.result.now c.args.conflict c.requires.conflict.clause c.get-clause.result.now c.list.ensures.list
    c.requires.conflict.numbered c.get-clause.ensures.clause in
    let f : IsFalse (lits_of b.trail.entries) c.get-clause.result.now =
    subst (λ (x : List ℤ). IsFalse (lits_of b.trail.entries) x) is c.requires.conflict.all_false in
    let few : c.len-len.result ≤ c.trail-trail.result.now.vars + 1 = c.len-len.ensures.few in
    let vars : c.trail-trail.result.now.vars ≡ b.list.vars = ap (λ (a : Assignment). a.vars) c.trail-trail.ensures.trail
    ∙ c.trail-trail.ensures.sound.same_vars in
    let len : c.len-len.result ≡ length b.trail.entries = c.len-len.ensures.len
    ∙ ap (λ (a : Assignment). length a.entries) c.trail-trail.ensures.trail in
    let size : length c.args.marks.now ≡ b.list.vars + 1 = ap length c.requires.blank ∙ length-replicate (b.list.vars + 1) false in
    within_false b.list.vars b.list.clauses b.trail.entries c.args.places.now t c.trail-trail.ensures.sound.forced c.requires.places
    c.get-clause.result.now (length c.args.marks.now) (omega arith) f

pub lowest_of-lowest-requires : goal.lowest_of-lowest-requires
lowest_of-lowest-requires c =
    let b = c.args.board.now in
    let t = c.trail-trail.ensures.ordered in
    let is = same_clause b.list c.list.result.now c.args.conflict c.requires.conflict.clause c.get-clause.result.now c.list.ensures.list
    c.requires.conflict.numbered c.get-clause.ensures.clause in
    let f : IsFalse (lits_of b.trail.entries) c.get-clause.result.now =
    subst (λ (x : List ℤ). IsFalse (lits_of b.trail.entries) x) is c.requires.conflict.all_false in
    let le : length b.trail.entries ≤ length b.trail.entries = omega arith in
    subst (λ (a : Assignment). All (IsWithin c.args.places.now (length a.entries)) c.get-clause.result.now)
    (sym c.trail-trail.ensures.trail)
    (within_false b.list.vars b.list.clauses b.trail.entries c.args.places.now t c.trail-trail.ensures.sound.forced c.requires.places
    c.get-clause.result.now (length b.trail.entries) le f)

pub back-init : goal.back-init
back-init c =
    let b = c.args.board.now in
    let es = b.trail.entries in
    let t = c.trail-trail.ensures.ordered in
    let is = same_clause b.list c.list.result.now c.args.conflict c.requires.conflict.clause c.get-clause.result.now c.list.ensures.list
    c.requires.conflict.numbered c.get-clause.ensures.clause in
    let f : IsFalse (lits_of es) c.get-clause.result.now =
    subst (λ (x : List ℤ). IsFalse (lits_of es) x) is c.requires.conflict.all_false in
    let named : IsNumbered b.list.clauses c.args.conflict c.get-clause.result.now =
    subst (λ (x : List ℤ). IsNumbered b.list.clauses c.args.conflict x) is c.requires.conflict.numbered in
    let level : c.level.result ≡ level_of es = c.level.ensures.level
    ∙ ap (λ (a : Assignment). level_of a.entries) c.trail-trail.ensures.trail in
    let len : c.len-len.result ≡ length es = c.len-len.ensures.len
    ∙ ap (λ (a : Assignment). length a.entries) c.trail-trail.ensures.trail in
    let lowers : Lowers es c.args.places.now (level_of es) c.get-clause.result.now (length es) c.lowest_of-lowest.result =
    subst (λ (m : ℕ). Lowers es c.args.places.now (level_of es) c.get-clause.result.now m c.lowest_of-lowest.result) len
    (subst (λ (m : ℕ). Lowers es c.args.places.now m c.get-clause.result.now c.len-len.result c.lowest_of-lowest.result) level
    (subst (λ (a : Assignment).
    Lowers a.entries c.args.places.now c.level.result c.get-clause.result.now c.len-len.result c.lowest_of-lowest.result)
    c.trail-trail.ensures.trail c.lowest_of-lowest.ensures)) in
    let above : 0 < level_of es = c.requires.above in
    let some : 0 < length es = omega (arith, level-le es) in
    record {
      room = refl;
      at = subst (λ (m : ℕ). IsAtPlace b.list.clauses es c.args.conflict (m - 1) c.mark_clause.new.marks c.lowest_of-lowest.result)
          (sym len)
          (at_last b.list.vars b.list.clauses es c.args.places.now t c.requires.places c.args.conflict (b.list.vars + 1)
          c.get-clause.result.now c.args.marks.now c.mark_clause.new.marks c.lowest_of-lowest.result
          c.trail-trail.ensures.sound.settled above some named f c.requires.blank c.mark_clause.ensures lowers);
    }

pub back-preserved : goal.back-preserved
back-preserved c = record {
  room = c.resolve-lowest.ensures.room
      ∙ c.back.invariant.room;
  at = c.resolve-lowest.ensures.at c.args.conflict c.back.invariant.at;
}
