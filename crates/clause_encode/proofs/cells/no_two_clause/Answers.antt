use Rattle.std.proofs.Common.{◌≡◌, ◌+◌, ◌-◌, ◌∙◌, [], ◌∷◌, length, ap, arith}
use Rattle.placement_clauses.specs.Upto.{upto}
use Rattle.placement_clauses.specs.Number.{pairs_below}
use Rattle.placement_clauses.specs.Shape.{no_two, not_with_later}
use Rattle.placement_clauses.proofs.UptoLemmas.{upto-none}
use Rattle.placement_clauses.proofs.LengthLemmas.{length-more, length-later, length-no_two, no_two-at}
use Rattle.clause_encode.specs.declared.clause_shape.ClauseShape.TheVariants.{Two}
use Rattle.clause_encode.proofs.PlaceLemmas.{at_lits}
use Rattle.clause_encode.proofs.cells.no_two_clause.Goals as goal

pub loop-earlier-init : goal.loop-earlier-init
loop-earlier-init c = let e : length (upto 0 (not_with_later c.args.count c.args.first)) ≡ 0 =
    ap length (upto-none (not_with_later c.args.count c.args.first)) in omega arith

pub returns-then-left-block : goal.returns-then-left-block
returns-then-left-block c =
    let n = c.args.count in
    let v = c.args.first in
    let r = c.loop-earlier.earlier in
    let j = c.loop-earlier.left in
    let there = no_two-at n v r j c.args.place c.loop-earlier.invariant (omega arith) (omega arith) in
    at_lits (no_two n v) c.args.place _ (Two _ _) there (λ k. c.negative.ensures k ∷ c.negative-then-left-block.ensures k ∷ []) tt

pub loop-earlier-preserved : goal.loop-earlier-preserved
loop-earlier-preserved c =
    let f = not_with_later c.args.count c.args.first in
    let more : length (upto (c.loop-earlier.earlier + 1) f) ≡ length (upto c.loop-earlier.earlier f) + length (f c.loop-earlier.earlier) =
    length-more c.loop-earlier.earlier f in
    let block : length (f c.loop-earlier.earlier) ≡ c.args.count - (c.loop-earlier.earlier + 1) =
    length-later c.args.count c.args.first c.loop-earlier.earlier in
    omega (arith, c.loop-earlier.invariant)

pub unreachable-requires : goal.unreachable-requires
unreachable-requires c =
    let f = not_with_later c.args.count c.args.first in
    let all : c.loop-earlier.earlier ≡ c.args.count = omega arith in
    let whole : length (upto c.loop-earlier.earlier f) ≡ pairs_below c.args.count = ap (λ r. length (upto r f)) all
    ∙ length-no_two c.args.count c.args.first in
    omega (arith, c.loop-earlier.invariant, c.requires.place)
