use Rattle.std.proofs.Common.{rules, tests, length}
use Rattle.std.specs.Prelude.{nat_lt}
use Rattle.std.specs.List.{position_or_len}
use Rattle.std.proofs.lemmas.Iterator.{YieldsList-from_slice}
use Rattle.std.proofs.lemmas.Iterator.Search.{position_from_yields_List}
use Rattle.ref_text.specs.Form.{is_zero}
use Rattle.ref_text.proofs.WordLemmas.{found_or_none}
use Rattle.ref_text.proofs.forms.zero_at.Goals as goal

pub returns : goal.returns
returns c =
    let values = c.args.values.now in
    found_or_none (nat_lt (position_or_len is_zero values) (length values)) (position_or_len is_zero values) c.position.result
    (position_from_yields_List is_zero _ _ _ c.position.ensures.ran (YieldsList-from_slice values cc) (λ x b q k. search (rules, tests)))
