use Rattle.std.proofs.Common.{◌≡◌, ◌≤◌, ◌+◌, ◌∷◌, ◌++◌, ℤ, List, [], Result, Ok, Err, false, flat_map, length, sym, ap, subst, ◌∙◌, arith}
use Rattle.std.specs.Prelude.{IfOk}
use Rattle.std.proofs.lemmas.List.{length-replicate}
use Rattle.clause_base.specs.Truth.{lits_of, IsFalse}
use Rattle.clause_base.specs.Refutation.{Derived}
use Rattle.clause_base.specs.declared.line.Line.{Line}
use Rattle.trail.specs.Assignment.{Assignment}
use Rattle.placer.specs.Marking.{Marks, is_used, is_kept, negation_if, reason_if}
use Rattle.placer.proofs.BoardParts.{same_clause}
use Rattle.placer.proofs.Resolving.{within_false}
use Rattle.placer.proofs.LastLine.{empty_line, Derived_last}
use Rattle.placer.proofs.learning.last_line_by.Goals as goal

-- what follows of a value from two facts
from_both : {T E : Type 0} (P Q R : T → Type 0) (r : Result T E) → ((x : T) → P x → Q x → R x) → IfOk r P → IfOk r Q → IfOk r R
from_both P Q R (Ok x) f p q = f x p q
from_both P Q R (Err e) f p q = tt

pub mark_clause-requires : goal.mark_clause-requires
mark_clause-requires c =
    let b = c.args.board.now in
    let t = c.trail-trail.ensures.ordered in
    let is = same_clause b.list c.list.result.now c.args.conflict c.requires.conflict.clause c.get.result.now c.list.ensures.list
    c.requires.conflict.numbered c.get.ensures.clause in
    let f : IsFalse (lits_of b.trail.entries) c.get.result.now =
    subst (λ (x : List ℤ). IsFalse (lits_of b.trail.entries) x) is c.requires.conflict.all_false in
    let few : c.len-len.result ≤ c.trail-trail.result.now.vars + 1 = c.len-len.ensures.few in
    let vars : c.trail-trail.result.now.vars ≡ b.list.vars =
    ap (λ (a : Assignment). a.vars) c.trail-trail.ensures.trail ∙ c.trail-trail.ensures.sound.same_vars in
    let len : c.len-len.result ≡ length b.trail.entries =
    c.len-len.ensures.len ∙ ap (λ (a : Assignment). length a.entries) c.trail-trail.ensures.trail in
    let size : length c.args.marks.now ≡ b.list.vars + 1 =
    ap length c.requires.blank ∙ length-replicate (b.list.vars + 1) false in
    within_false b.list.vars b.list.clauses b.trail.entries c.args.places.now t c.trail-trail.ensures.sound.forced c.requires.places
    c.get.result.now (length c.args.marks.now) (omega arith) f

pub returns-clause-empty : goal.returns-clause-empty
returns-clause-empty c =
    let b = c.args.board.now in
    let es = b.trail.entries in
    let places = c.args.places.now in
    let last = c.close_marks.new.marks in
    let t = c.trail-trail.ensures.ordered in
    let is = same_clause b.list c.list.result.now c.args.conflict c.requires.conflict.clause c.get.result.now c.list.ensures.list
    c.requires.conflict.numbered c.get.ensures.clause in
    let m : Marks places c.requires.conflict.clause c.args.marks.now c.mark_clause.new.marks =
    subst (λ (x : List ℤ). Marks places x c.args.marks.now c.mark_clause.new.marks) (sym is) c.mark_clause.ensures in
    let none = empty_line b.list.vars b.list.clauses es places t c.trail-trail.ensures.sound.forced c.requires.places c.args.conflict
    c.requires.conflict c.args.marks.now c.mark_clause.new.marks last m c.close_marks.ensures c.requires.level in
    from_both (λ (x : Line). x.clause ≡ flat_map (negation_if (is_kept es places last 0)) es)
    (λ (x : Line). x.hints ≡ flat_map (reason_if (is_used es places last 0)) es ++ c.args.conflict ∷ []) (λ (x : Line). x.clause ≡ [])
    c.marked_line.result (λ x clause hints. clause ∙ none) c.marked_line.ensures.clause c.marked_line.ensures.hints

pub returns-clause-derived : goal.returns-clause-derived
returns-clause-derived c =
    let b = c.args.board.now in
    let es = b.trail.entries in
    let places = c.args.places.now in
    let last = c.close_marks.new.marks in
    let t = c.trail-trail.ensures.ordered in
    let is = same_clause b.list c.list.result.now c.args.conflict c.requires.conflict.clause c.get.result.now c.list.ensures.list
    c.requires.conflict.numbered c.get.ensures.clause in
    let m : Marks places c.requires.conflict.clause c.args.marks.now c.mark_clause.new.marks =
    subst (λ (x : List ℤ). Marks places x c.args.marks.now c.mark_clause.new.marks) (sym is) c.mark_clause.ensures in
    from_both (λ (x : Line). x.clause ≡ flat_map (negation_if (is_kept es places last 0)) es)
    (λ (x : Line). x.hints ≡ flat_map (reason_if (is_used es places last 0)) es ++ c.args.conflict ∷ []) (λ (x : Line). Derived b.list x)
    c.marked_line.result
    (λ x clause hints.
    Derived_last b.list.vars b.list.clauses es places t c.trail-trail.ensures.sound.forced c.requires.places c.args.conflict
    c.requires.conflict c.args.marks.now c.mark_clause.new.marks last m c.close_marks.ensures c.requires.level x clause hints)
    c.marked_line.ensures.clause c.marked_line.ensures.hints
