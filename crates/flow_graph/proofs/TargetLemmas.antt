-- Where the first label of a statement stands.
use Rattle.std.proofs.Common.{ℕ, ◌≡◌, ◌<◌, true, List, [], ◌∷◌, length, Option, Some, None, is_some, position, arith}
use Rattle.std.proofs.lemmas.Bool.Decides.{nat_tests}
use Rattle.std.specs.List.{list_any, position_or_len}
use Rattle.flow_graph.specs.Targets.{HasLabel}

-- the first label stands before the end of the targets
first_label_within : (targets : List (Option ℕ)) → list_any is_some targets ≡ true → position_or_len is_some targets < length targets
first_label_within [] has = cc
first_label_within (Some label ∷ targets) has = omega arith
first_label_within (None ∷ targets) has = omega (arith, first_label_within targets has)

-- targets with a label have a first one
pub HasLabel-position : (targets : List (Option ℕ)) → HasLabel targets → position is_some targets ≡ None → ⊥
HasLabel-position targets has none = let within = first_label_within targets has in grind (arith, nat_tests)
