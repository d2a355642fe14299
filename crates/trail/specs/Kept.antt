-- What the fields of a trail keep: the signs are those of the entries, and there is room for every variable.

use Rattle.std.specs.Prelude.{ℕ, ◌+◌, ◌<◌, ◌≤◌, ◌^◌, ◌≡◌, Bool, if◌then◌else◌, List, length, Option, None, is_some, sum_by, slice_index_or, vec_capacity}
use Rattle.clause_base.specs.declared.entry.Entry.{Entry}
use Rattle.trail.specs.Assignment.{Assignment, sign_of, level_of, IsTrail}
use Rattle.trail.specs.declared.trail.Trail.TheInside.{Inside}

-- what a contract sees of the fields
abbrev pub assignment_of : Inside → Assignment
assignment_of t = record { vars = t.vars; entries = t.entries.items }

-- 1 for a sign that is there
abbrev pub count_of : Option Bool → ℕ
count_of o = if is_some o then 1 else 0

-- the entries are a trail, the signs are those of its variables, and there are as many signs as entries
pub record AreKept (vars : ℕ) (es : List Entry) (signs : List (Option Bool)) : Type 0 where
  pub ordered : IsTrail vars es
  pub sized : length signs ≡ vars + 1
  pub told : (v : ℕ) → v ≤ vars → slice_index_or signs v None ≡ sign_of v es
  pub counted : sum_by count_of signs ≡ length es

-- what the fields keep
pub record IsKept (t : Inside) : Type 0 where
  pub few : t.vars < 2 ^ 31
  pub room : t.vars < vec_capacity t.entries
  pub level : t.level ≡ level_of t.entries.items
  pub lists : AreKept t.vars t.entries.items t.signs.items
