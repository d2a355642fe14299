-- A literal as a whole number: the number of its variable, negative where the literal is negated.
-- The form is that of DIMACS, which solvers and checkers share.

use Rattle.std.specs.Prelude.{ℕ, suc, ◌<◌, ◌^◌, ℤ, pos, negsuc, Bool, true, false}

-- the number of the variable of a literal
abbrev pub var_of : ℤ → ℕ
var_of (pos n) = n
var_of (negsuc n) = suc n

-- it has no minus sign
abbrev pub is_positive : ℤ → Bool
is_positive (pos n) = true
is_positive (negsuc n) = false

-- a literal: not 0, and its variable's number fits 31 bits, so that its negation is a literal too
pub record IsLit (z : ℤ) : Type 0 where
  pub above : 0 < var_of z
  pub below : var_of z < 2 ^ 31
