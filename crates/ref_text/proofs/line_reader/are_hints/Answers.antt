use Rattle.std.proofs.Common.{◌≡◌, true, map, length, arith}
use Rattle.std.specs.Prelude.{nat_lt}
use Rattle.std.proofs.lemmas.Bool.Decides.{nat_tests}
use Rattle.std.proofs.lemmas.List.{length-map}
use Rattle.std.proofs.lemmas.List.Folds.{list_all-map}
use Rattle.ref_text.specs.Form.{size_of}
use Rattle.ref_text.proofs.line_reader.are_hints.Goals as goal

pub returns : goal.returns
returns c =
    let some : nat_lt 0 (length (map size_of c.args.hints.now)) ≡ true = grind (arith, nat_tests, length-map c.args.hints.now size_of) in
    rw (list_all-map (λ hint. nat_lt hint c.args.number) size_of c.args.hints.now, some) c.are_below.ensures
