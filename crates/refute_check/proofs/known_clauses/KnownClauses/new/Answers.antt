use Rattle.std.proofs.Common.{◌≡◌, ℕ, zero, suc, ℤ, List, [], ◌∷◌, map, refl, ap, None, arith}
use Rattle.std.specs.Prelude.{All}
use Rattle.std.proofs.lemmas.List.Elements.{All-replicate}
use Rattle.refute_check.specs.Known.{kept_at}
use Rattle.refute_check.proofs.known_clauses.KnownClauses.new.Goals as goal

-- a table of zeros has no clause
none_asked : (asked : List (List ℤ)) (places : List ℕ) → All (λ p. p ≡ 0) places → All (λ c. c ≡ None) (map (kept_at asked) places)
none_asked asked [] zeros k d lt = absurd (omega arith)
none_asked asked (p ∷ ps) zeros zero d lt = ap (kept_at asked) (zeros 0 p (omega arith))
none_asked asked (p ∷ ps) zeros (suc k) d lt = none_asked asked ps (λ j e h. zeros (suc j) e (omega arith)) k d (omega arith)

pub returns-clause-none : goal.returns-clause-none
returns-clause-none c =
    none_asked _ c.in_ok-places.places.items
    (rw (c.in_ok-places.ensures.items_if_clones_equal (λ _ e. e)) (All-replicate (λ p. p ≡ 0) c.args.len 0 refl))
