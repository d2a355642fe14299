-- What is known of the clauses that are read off a board.

use Rattle.std.proofs.Common.{◌≡◌, ℕ, ℤ, ◌-◌, ◌<◌, List, Some, sym, ap, ◌∙◌}
use Rattle.std.specs.Prelude.{slice_get}
use Rattle.std.proofs.lemmas.Option.{same_Some}
use Rattle.clause_base.specs.Clauses.{Clauses}
use Rattle.clause_base.specs.Truth.{IsNumbered}
use Rattle.clause_base.specs.declared.entry.Entry.{Entry}

-- the clause of a number
pub same_clause : (cs read : Clauses) (n : ℕ) (c d : List ℤ) → read ≡ cs → IsNumbered cs.clauses n c
    → slice_get read.clauses (n - 1) ≡ Some d →
    c ≡ d
same_clause cs read n c d value named there =
    same_Some c d (sym named.there ∙ ap (λ (x : Clauses). slice_get x.clauses (n - 1)) (sym value) ∙ there)

-- the clause of a reason
pub named : (cs read : Clauses) (d : Entry) (c : List ℤ) → read ≡ cs → 0 < d.reason → slice_get read.clauses (d.reason - 1) ≡ Some c →
    IsNumbered cs.clauses d.reason c
named cs read d c value implied there =
    record { above = implied; there = ap (λ (x : Clauses). slice_get x.clauses (d.reason - 1)) (sym value) ∙ there }
