-- What a contract sees of a trail: entries with levels. The levels are those of the search for a model by decisions
-- and propagation.

use Rattle.std.specs.Prelude.{ℕ, ℤ, ◌+◌, ◌<◌, ◌≤◌, ◌≡◌, ◌≢◌, ◌==◌, ◌-◌, ◌↔◌, Bool, false, if◌then◌else◌, List, length, take, Option, Some, None, sum_by, nat_lt, slice_get, All, AllPairs}
use Rattle.std.specs.Option.{option_map_or}
use Rattle.clause_base.specs.Lit.{var_of}
use Rattle.clause_base.specs.Truth.{lits_of, sign_in, value_in}
use Rattle.clause_base.specs.declared.entry.Entry.{Entry}

-- entries over the variables 1 to `vars`
pub record Assignment : Type 0 where
  pub vars : ℕ
  pub entries : List Entry

-- the sign that a variable has after these entries
abbrev pub sign_of : ℕ → List Entry → Option Bool
sign_of v es = sign_in v (lits_of es)

-- the truth value of a literal after these entries
abbrev pub value_of : ℤ → List Entry → Option Bool
value_of z es = value_in z (lits_of es)

-- how many levels an entry begins: one where it is a decision
abbrev pub step_of : Entry → ℕ
step_of e = if e.reason == 0 then 1 else 0

-- the present level: the number of decisions
abbrev pub level_of : List Entry → ℕ
level_of es = sum_by step_of es

-- the entry may stand after these: its variable is unassigned, and it is of the present level, or begins the next one
-- where it is a decision
pub record Follows (vars : ℕ) (before : List Entry) (e : Entry) : Type 0 where
  pub above : 0 < var_of e.lit
  pub in_range : var_of e.lit ≤ vars
  pub fresh : sign_of (var_of e.lit) before ≡ None
  pub level : e.level ≡ level_of before + step_of e

-- each entry follows those before it
abbrev pub IsTrail : ℕ → List Entry → Type 0
IsTrail vars es = (i : ℕ) (e : Entry) → slice_get es i ≡ Some e → Follows vars (take i es) e

-- what this makes of the whole list: the variables differ, levels never fall, a decision is of a level from 1, and of
-- the entries of such a level the first alone is a decision
pub record IsLevelled (es : List Entry) : Type 0 where
  pub apart : AllPairs (λ a b. var_of a.lit ≢ var_of b.lit) es
  pub rising : AllPairs (λ a b. a.level ≤ b.level) es
  pub from_one : All (λ e. e.reason ≡ 0 → 0 < e.level) es
  pub begun : (i : ℕ) (e : Entry) → slice_get es i ≡ Some e → 0 < e.level → (e.reason ≡ 0) ↔ All (λ b. b.level ≢ e.level) (take i es)

-- whether the last entry is of a level above this one
abbrev pub ends_above_test : ℕ → List Entry → Bool
ends_above_test level es = option_map_or (λ e. nat_lt level e.level) (slice_get es (length es - 1)) false
