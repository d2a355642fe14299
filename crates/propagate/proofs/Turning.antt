-- What one turn of propagation tells.

use Rattle.std.proofs.Common.{◌≡◌, ℕ, ℤ, pos, ◌<◌, ◌≤◌, List, length, take, get_or, sym, subst, ⊎_elim, arith}
use Rattle.std.proofs.lemmas.Bool.{cases_lt}
use Rattle.std.proofs.lemmas.Option.{slice_get-get_or}
use Rattle.clause_base.specs.Truth.{lits_of, IsSettled}
use Rattle.clause_base.specs.declared.entry.Entry.{Entry}
use Rattle.trail.specs.Assignment.{IsTrail}
use Rattle.propagate.specs.Propagation.{Extends}
use Rattle.propagate.specs.Scan.{Scans, Turns}
use Rattle.propagate.specs.Watching.{AreLaid, AreGuarded}
use Rattle.propagate.specs.declared.pairs.Pair.{Pair}
use Rattle.propagate.specs.declared.scan.Scan.{Scan}
use Rattle.propagate.specs.declared.scan.Scan.TheVariants.{Quiet, Implied, Conflict}
use Rattle.propagate.specs.declared.watch_lists.Watch.{Watch}
use Rattle.propagate.proofs.Extending.{longer_extends}
use Rattle.propagate.proofs.Guarding.{settled_guarded}

-- the clauses with a pair are settled where all entries are seen, and the others were scanned
pub turned : (vars : ℕ) (clauses : List (List ℤ)) (lists : List (List Watch)) (pairs : List Pair) (old mid new : List Entry)
    (head from : ℕ)
    → IsTrail vars mid → AreLaid vars clauses lists pairs → AreGuarded clauses lists pairs (take head mid) mid → head ≡ length mid
    → from ≡ length pairs → Extends old mid
    → (r : Scan) → Scans clauses from mid new r → Turns clauses old new r
turned vars clauses lists pairs old mid new head from t laid guarded all from_is x Quiet told = λ n c there.
    subst (λ (es : List Entry). IsSettled (lits_of es) c) (sym told.0) (⊎_elim
    (λ (lt : n < from).
    let d : Pair = record { first = pos 1; second = pos 1 } in
    let within : n < length pairs = omega arith in
    settled_guarded vars clauses lists pairs mid t laid
    (subst (λ (h : ℕ). AreGuarded clauses lists pairs (take h mid) mid) all guarded) n c (get_or pairs n d) there
    (slice_get-get_or pairs n d within))
    (λ (ge : from ≤ n). subst (λ (es : List Entry). IsSettled (lits_of es) c) told.0 (told.1 n c ge there))
    (cases_lt n from))
turned vars clauses lists pairs old mid new head from t laid guarded all from_is x Implied told =
    let longer : length old ≤ length mid = longer_extends old mid x in let more : length mid < length new = told in omega arith
turned vars clauses lists pairs old mid new head from t laid guarded all from_is x (Conflict n) told = told
