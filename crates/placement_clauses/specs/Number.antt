-- The numbers of the variables (this project's own choice). n is the number of labels.
use Rattle.std.specs.Prelude.{ℕ, ◌+◌, ◌-◌, ◌*◌, ◌/◌, ℤ, pos, neg_ℤ, nat_lt, if◌then◌else◌}

-- the literal of a variable
abbrev pub plus : ℕ → ℤ
plus v = pos v

-- the negated literal of a variable
abbrev pub minus : ℕ → ℤ
minus v = neg_ℤ (pos v)

-- label i has row r
abbrev pub row_var : ℕ → ℕ → ℕ
row_var i r = 48 * i + r + 1

-- label i has column c
abbrev pub col_var : ℕ → ℕ → ℕ
col_var i c = 48 * i + 33 + c

-- how many pairs there are of numbers below j
abbrev pub pairs_below : ℕ → ℕ
pairs_below j = j * (j - 1) / 2

-- the rows of the labels i and j differ, for i below j
abbrev pub differ_var : ℕ → ℕ → ℕ → ℕ
differ_var n i j = 48 * n + pairs_below j + i + 1

-- the rows of two labels differ, in any order
abbrev pub pair_var : ℕ → ℕ → ℕ → ℕ
pair_var n i j = if nat_lt i j then differ_var n i j else differ_var n j i

-- instruction i, a `goto`, jumps in the t-th of three ways: to its own column, to row 0, to its own row
abbrev pub way_var : ℕ → ℕ → ℕ → ℕ
way_var n i t = 48 * n + pairs_below n + 3 * i + t + 1

-- how many variables there are
abbrev pub var_count_of : ℕ → ℕ
var_count_of n = 48 * n + pairs_below n + 3 * n
