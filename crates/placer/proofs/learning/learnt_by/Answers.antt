use Rattle.std.proofs.Common.{◌≡◌, ◌≤◌, ℤ, List, flat_map, length, sym, subst, ◌∙◌, arith}
use Rattle.std.specs.Prelude.{All}
use Rattle.trail.specs.Assignment.{Assignment}
use Rattle.placer.specs.FirstPoint.{IsFirstPointClause}
use Rattle.placer.specs.Learning.{Asserts}
use Rattle.placer.specs.Marking.{IsWithin, IsBack, is_kept, negation_if}
use Rattle.placer.proofs.Resolving.{within_false}
use Rattle.placer.proofs.PointLine.{Derived_kept, false_kept, Asserts_kept, IsFirstPointClause_kept, begun_at}
use Rattle.placer.proofs.learning.learnt_by.Goals as goal

pub close_marks-requires-clause-begun : goal.close_marks-requires-clause-begun
close_marks-requires-clause-begun c =
    let b = c.args.board.now in
    let t = c.trail-trail.ensures.ordered in
    begun_at b.list.vars b.list.clauses b.trail.entries c.args.conflict c.first_point-point.result c.first_point-point.new.marks t
    c.first_point-point.ensures.at c.requires.above

pub back_of-back-requires : goal.back_of-back-requires
back_of-back-requires c =
    let b = c.args.board.now in
    let es = b.trail.entries in
    let places = c.args.places.now in
    let t = c.trail-trail.ensures.ordered in
    let clause : List ℤ = flat_map (negation_if (is_kept es places c.close_marks.new.marks c.first_point-point.result)) es in
    let le : length es ≤ length es = omega arith in
    let is : c.as_slice.result.now ≡ clause = c.as_slice.ensures ∙ c.in_ok-line.ensures.clause in
    let all : All (IsWithin places (length es)) clause =
    within_false b.list.vars b.list.clauses es places t c.trail-trail.ensures.sound.forced c.requires.places clause (length es) le
    (false_kept b.list.vars b.list.clauses es places t c.trail-trail.ensures.sound.forced c.requires.places c.args.conflict
    c.first_point-point.result c.first_point-point.new.marks c.close_marks.new.marks c.requires.conflict
    c.first_point-point.ensures.at c.close_marks.ensures c.requires.above) in
    subst (λ (a : Assignment). All (IsWithin places (length a.entries)) c.as_slice.result.now) (sym c.trail-trail.ensures.trail)
    (subst (λ (cl : List ℤ). All (IsWithin places (length es)) cl) (sym is) all)

pub returns-clause-derived : goal.returns-clause-derived
returns-clause-derived c =
    let b = c.args.board.now in
    let t = c.trail-trail.ensures.ordered in
    Derived_kept b.list.vars b.list.clauses b.trail.entries c.args.places.now t c.trail-trail.ensures.sound.forced c.requires.places
    c.args.conflict c.first_point-point.result c.first_point-point.new.marks c.close_marks.new.marks c.requires.conflict
    c.first_point-point.ensures.at c.close_marks.ensures c.requires.above c.in_ok-line.line c.in_ok-line.ensures.clause
    c.in_ok-line.ensures.hints

pub returns-clause-asserts : goal.returns-clause-asserts
returns-clause-asserts c =
    let b = c.args.board.now in
    let es = b.trail.entries in
    let places = c.args.places.now in
    let point = c.first_point-point.result in
    let back = c.back_of-back.result in
    let t = c.trail-trail.ensures.ordered in
    let is = c.as_slice.ensures ∙ c.in_ok-line.ensures.clause in
    let levels : IsBack es places point c.as_slice.result.now back =
    subst (λ (a : Assignment). IsBack a.entries places point c.as_slice.result.now back)
    c.trail-trail.ensures.trail c.back_of-back.ensures in
    let most = subst (λ (cl : List ℤ). IsBack es places point cl back) is levels in
    subst (λ (cl : List ℤ). Asserts es cl back) (sym c.in_ok-line.ensures.clause)
    (Asserts_kept b.list.vars b.list.clauses es places t c.trail-trail.ensures.sound.forced c.requires.places c.args.conflict point
    c.first_point-point.new.marks c.close_marks.new.marks c.requires.conflict c.first_point-point.ensures.at c.close_marks.ensures
    c.requires.above back most)

pub returns-clause-first_point : goal.returns-clause-first_point
returns-clause-first_point c =
    let b = c.args.board.now in
    let t = c.trail-trail.ensures.ordered in
    subst (λ (cl : List ℤ). IsFirstPointClause b.list.clauses b.trail.entries c.args.conflict cl) (sym c.in_ok-line.ensures.clause)
    (IsFirstPointClause_kept b.list.vars b.list.clauses b.trail.entries c.args.places.now t c.trail-trail.ensures.sound.forced
    c.requires.places c.args.conflict c.first_point-point.result c.first_point-point.new.marks c.close_marks.new.marks
    c.requires.conflict c.first_point-point.ensures.at c.close_marks.ensures c.requires.above)
