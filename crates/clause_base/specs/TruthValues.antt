-- When a clause is true.
use Rattle.std.specs.Prelude.{ℕ, suc, ◌-◌, ◌≡◌, ℤ, pos, negsuc, Bool, true, false, not, List, All}
use Rattle.std.specs.List.{list_any}
use Rattle.std.specs.Prelude.{slice_index_or}

-- the literal is true where the variables have these values
abbrev pub lit_holds : (ℕ → Bool) → ℤ → Bool
lit_holds values (pos v) = values v
lit_holds values (negsuc v) = not (values (suc v))

-- some literal is true
abbrev pub clause_holds : (ℕ → Bool) → List ℤ → Bool
clause_holds values clause = list_any (lit_holds values) clause

-- each clause is true
abbrev pub AllHold : (ℕ → Bool) → List (List ℤ) → Type 0
AllHold values clauses = All (λ clause. clause_holds values clause ≡ true) clauses

-- the value of a variable in a list of values, of which the first is that of variable 1
abbrev pub truth_in : List Bool → ℕ → Bool
truth_in truths v = slice_index_or truths (v - 1) false
