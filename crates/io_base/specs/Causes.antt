-- When a fault may be answered: the count of faults rose. Counts and their end are this project's own choice.
use Rattle.std.specs.Prelude.{ℕ, ◌≡◌, ◌+◌, ◌≤◌, min, max, Result, OnOk, OnErr}
use Rattle.io_base.specs.declared.faults.Failed.{Failed}

-- the end of a count, at which it stands still: 2^64 - 1
abbrev pub end_of_count : ℕ
end_of_count = 18446744073709551615

-- a count after n more; one that is past its end stays as it is
abbrev pub counted : ℕ → ℕ → ℕ
counted before n = max before (min (before + n) end_of_count)

-- the count rose, or stands at its end
abbrev pub Rose : ℕ → ℕ → Type 0
Rose before now = min (before + 1) end_of_count ≤ now

-- the count rose by one for a call that failed, and by none for one that did not
pub record CountsFault {T : Type 0} (before now : ℕ) (result : Result T Failed) : Type 0 where
  pub failed : OnErr result (now ≡ counted before 1)
  pub succeeded : OnOk result (now ≡ before)
