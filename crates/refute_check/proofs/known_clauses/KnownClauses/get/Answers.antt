use Rattle.std.proofs.Common.{◌≡◌, zero, suc, ◌∷◌, ◌-◌, ◌∙◌, ◌<◌, ◌≤◌, ℕ, List, [], length, get_or, ap, sym, arith}
use Rattle.std.specs.Prelude.{slice_get}
use Rattle.std.proofs.lemmas.Option.{get_or_from_slice_get}
use Rattle.refute_check.specs.Known.{Known, known_clauses, or_nothing, kept_at}
use Rattle.refute_check.specs.Hints.{clause_at}
use Rattle.refute_check.proofs.KnownLemmas.{table_front, table_back}
use Rattle.refute_check.proofs.known_clauses.KnownClauses.get.Goals as goal

-- the element that was read, whatever stands for none
place_is : (xs : List ℕ) (k x : ℕ) → k < length xs → x ≡ get_or xs k x → x ≡ get_or xs k 0
place_is [] k x lt e = absurd (omega arith)
place_is (y ∷ ys) zero x lt e = e
place_is (y ∷ ys) (suc k) x lt e = place_is ys k x (omega arith) e

pub returns-then-place-len-clause-clause : goal.returns-then-place-len-clause-clause
returns-then-place-len-clause-clause c =
    let i = c.self.inside in
    let lt : c.args.number - 1 < length i.places.items = omega (arith, c.if-place-len.true, c.len.ensures) in
    c.kept.ensures.clause
    ∙ ap (λ (p : ℕ). or_nothing (kept_at i.asked.clauses p))
    (place_is i.places.items (c.args.number - 1) c.index.result.now lt c.index.ensures)
    ∙ sym (table_front i.places.items i.asked.clauses i.derived.clauses (c.args.number - 1) lt)
    ∙ ap (λ (k : Known). clause_at (known_clauses k) c.args.number) c.self.view_is

pub returns-else-place-len-clause-clause : goal.returns-else-place-len-clause-clause
returns-else-place-len-clause-clause c =
    let i = c.self.inside in
    let le : length i.places.items ≤ c.args.number - 1 = omega (arith, c.if-place-len.false, c.len.ensures) in
    let at = get_or_from_slice_get i.derived.clauses (c.args.number - 1 - length i.places.items) c.get.result.now []
    (ap (slice_get i.derived.clauses) (omega arith) ∙ c.get.ensures.clause) in
    sym at
    ∙ sym (table_back i.places.items i.asked.clauses i.derived.clauses (c.args.number - 1) le)
    ∙ ap (λ (k : Known). clause_at (known_clauses k) c.args.number) c.self.view_is
