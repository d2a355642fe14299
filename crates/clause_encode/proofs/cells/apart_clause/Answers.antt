use Rattle.std.proofs.Common.{◌/◌, ◌%◌, ◌*◌, ◌+◌, ◌≡◌, ap, sym, ◌∙◌, arith}
use Rattle.std.specs.Prelude.{slice_get}
use Rattle.placement_clauses.specs.Clauses.{apart_clauses, apart_from_earlier}
use Rattle.placement_clauses.proofs.UptoLemmas.{slice_get-blocks}
use Rattle.placement_clauses.proofs.LengthLemmas.{length-apart}
use Rattle.clause_encode.proofs.PlaceLemmas.{at_piece}
use Rattle.clause_encode.proofs.cells.apart_clause.Goals as goal

pub returns : goal.returns
returns c =
    let earlier = c.args.place / 48 in
    let place = c.args.place % 48 in
    let split : earlier * 48 + place ≡ c.args.place = omega arith in
    at_piece (apart_from_earlier c.args.labels c.args.label) (apart_clauses c.args.labels c.args.label earlier) c.args.place place _
    (ap (slice_get (apart_from_earlier c.args.labels c.args.label)) (sym split)
    ∙ slice_get-blocks 48 c.args.label (apart_clauses c.args.labels c.args.label) earlier place
    (λ i lt. length-apart c.args.labels c.args.label i) (omega arith) (omega arith))
    c.pair_clause.ensures
