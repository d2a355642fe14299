use Rattle.std.proofs.Common.{◌≡◌, ◌<◌, ◌⊎◌, ℕ, length, drop, None}
use Rattle.std.specs.Prelude.{slice_index_or}
use Rattle.clause_base.specs.Truth.{sign_in}
use Rattle.refute_check.proofs.signs.unmark.Given as goal

abbrev pub invariant-loop-lit : goal.invariant-loop-lit
invariant-loop-lit l = record {
  sized : length l.signs ≡ length l.initial.signs;
  told : (v : ℕ) → v < length l.initial.signs
      → (slice_index_or l.signs v None ≡ None) ⊎ (slice_index_or l.signs v None ≡ sign_in v (drop l.lit-index l.lits));
}
