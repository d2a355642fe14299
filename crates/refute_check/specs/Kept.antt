-- How the table of signs lies beside the literals that hold.

use Rattle.std.specs.Prelude.{ℕ, ℤ, ◌+◌, ◌≤◌, ◌<◌, ◌^◌, ◌≡◌, Bool, List, length, Option, None, All, slice_index_or}
use Rattle.clause_base.specs.Lit.{var_of}
use Rattle.clause_base.specs.Truth.{sign_in}
use Rattle.refute_check.specs.Held.{Held}
use Rattle.refute_check.specs.declared.signs.Signs.TheInside.{Inside}

-- the table has the sign of each variable
pub record AreKept (vars : ℕ) (held : List ℤ) (signs : List (Option Bool)) : Type 0 where
  pub few : vars < 2 ^ 31
  pub sized : length signs ≡ vars + 1
  pub within : All (λ z. var_of z ≤ vars) held
  pub told : (v : ℕ) → v ≤ vars → slice_index_or signs v None ≡ sign_in v held

-- what a contract sees of the table
abbrev pub held_of : Inside → Held
held_of i = record { vars = i.vars; held = i.held.items }

-- what the table keeps
abbrev pub IsKept : Inside → Type 0
IsKept i = AreKept i.vars i.held.items i.signs.items
