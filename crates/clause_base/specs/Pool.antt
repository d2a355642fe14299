-- How a list of clauses lies in memory: one pool of literals, cut at the starts.

use Rattle.std.specs.Prelude.{ℕ, ℤ, ◌<◌, ◌≤◌, ◌≡◌, ◌^◌, List, [], ◌∷◌, length, slice_range, All}
use Rattle.clause_base.specs.Clauses.{Clauses, IsClause}
use Rattle.clause_base.specs.declared.clause_list.ClauseList.TheInside.{Inside}

-- the pieces of a pool, each from one start to the next
abbrev pub pieces : List ℤ → List ℕ → List (List ℤ)
pieces lits [] = []
pieces lits (start ∷ []) = []
pieces lits (start ∷ (next ∷ rest)) = slice_range lits start next ∷ pieces lits (next ∷ rest)

-- there is a start, the starts do not fall, and the last one is the end of the pool
abbrev pub AreStarts : ℕ → List ℕ → Type 0
AreStarts end [] = ⊥
AreStarts end (start ∷ []) = start ≡ end
AreStarts end (start ∷ (next ∷ rest)) = (start ≤ next) × (next ≤ end) × AreStarts end (next ∷ rest)

-- a pool and its starts whose pieces are clauses
pub record ArePool (vars : ℕ) (lits : List ℤ) (starts : List ℕ) : Type 0 where
  pub few_vars : vars < 2 ^ 31
  pub few : length starts ≤ 2 ^ 32
  pub in_order : AreStarts (length lits) starts
  pub valid : All (IsClause vars) (pieces lits starts)

-- what a contract sees of the fields
abbrev pub clauses_of : Inside → Clauses
clauses_of l = record { vars = l.vars; clauses = pieces l.lits.items l.starts.items }

-- what the fields keep
abbrev pub IsPool : Inside → Type 0
IsPool l = ArePool l.vars l.lits.items l.starts.items
