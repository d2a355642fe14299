use Rattle.std.proofs.Common.{◌++◌, [], ◌∷◌, ℕ, get_or, not, false, sym, ap, subst, ◌∙◌}
use Rattle.std.specs.Prelude.{◌&&◌, neg_ℤ}
use Rattle.std.specs.Bool.{if◌then◌else◌}
use Rattle.trail.specs.Assignment.{Assignment, IsTrail}
use Rattle.placer.specs.Marking.{ArePlaces, is_used, is_kept, negation_if, reason_if}
use Rattle.clause_base.proofs.ListLemmas.{flat_map_there}
use Rattle.placer.proofs.Flags.{kept_is, used_is}
use Rattle.placer.proofs.conflict_analysis.marked_line.Goals as goal

pub loop-index-preserved : goal.loop-index-preserved
loop-index-preserved c =
    let es = c.trail-trail.result.now.entries in
    let places = c.args.places.now in
    let marks = c.args.marks.now in
    let point = c.args.point in
    let i = c.loop-index.index in
    let e = c.entry-entry.result in
    let value = c.trail-trail.ensures.trail in
    let t : IsTrail c.trail-trail.result.now.vars es = c.len-index-end.ensures.ordered in
    let p : ArePlaces c.trail-trail.result.now.vars es places =
    subst (λ (v : ℕ). ArePlaces v es places) (sym (ap (λ (a : Assignment). a.vars) value ∙ c.trail-trail.ensures.sound.same_vars))
    (subst (λ (a : Assignment). ArePlaces c.args.board.now.list.vars a.entries places) (sym value) c.requires.places) in
    record {
      clause = c.in_ok-add_where.ensures.clause
          ∙ ap (λ r. c.loop-index.clause.items ++ (if get_or marks i false && not r then neg_ℤ e.lit ∷ [] else []))
          c.resolves-resolved.ensures
          ∙ ap (λ b. c.loop-index.clause.items ++ (if b then neg_ℤ e.lit ∷ [] else []))
          (sym (kept_is c.trail-trail.result.now.vars es places marks point i e t p c.entry-entry.ensures))
          ∙ ap (λ l. l ++ negation_if (is_kept es places marks point) e) c.loop-index.invariant.clause
          ∙ sym (flat_map_there (negation_if (is_kept es places marks point)) es i e c.entry-entry.ensures);
      hints = c.in_ok-add_where.ensures.hints
          ∙ ap (λ r. c.loop-index.hints.items ++ (if get_or marks i false && r then e.reason ∷ [] else [])) c.resolves-resolved.ensures
          ∙ ap (λ b. c.loop-index.hints.items ++ (if b then e.reason ∷ [] else []))
          (sym (used_is c.trail-trail.result.now.vars es places marks point i e t p c.entry-entry.ensures))
          ∙ ap (λ l. l ++ reason_if (is_used es places marks point) e) c.loop-index.invariant.hints
          ∙ sym (flat_map_there (reason_if (is_used es places marks point)) es i e c.entry-entry.ensures);
    }
