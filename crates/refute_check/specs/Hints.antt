-- How the hints of a line are judged, one after another. The form is that of LRAT, and the answers are this
-- project's own. That no answer means a derived line is a law of the crate.

use Rattle.std.specs.Prelude.{ℕ, ℤ, ◌<◌, ◌≤◌, ◌-◌, ◌++◌, Bool, true, false, List, [], ◌∷◌, length, Option, Some, None, All, slice_index_or, slice_index, take}
use Rattle.clause_base.specs.Truth.{value_in}
use Rattle.ref_text.specs.declared.why.Why.{Why}
use Rattle.ref_text.specs.declared.why.Why.TheVariants as why
use Rattle.refute_check.specs.declared.derivation.ClauseStatus.{ClauseStatus}
use Rattle.refute_check.specs.declared.derivation.ClauseStatus.TheVariants.{Settled, Unit, False}

-- what is known of a clause after one more literal
abbrev pub seen_with : ℤ → Option Bool → ClauseStatus → ClauseStatus
seen_with z (Some true) before = Settled
seen_with z (Some false) before = before
seen_with z None False = Unit z
seen_with z None (Unit y) = Settled
seen_with z None Settled = Settled

-- what is known of a clause, where the literals before these showed so much
unfoldable pub look_on : List ℤ → List ℤ → ClauseStatus → ClauseStatus
look_on held [] before = before
look_on held (z ∷ zs) before = look_on held zs (seen_with z (value_in z held) before)

-- the clause of a number
abbrev pub clause_at : List (List ℤ) → ℕ → List ℤ
clause_at clauses hint = slice_index_or clauses (hint - 1) []

-- the literals that hold after a clause that was looked at: one more, or none where it is not unit
abbrev pub held_with : List ℤ → ClauseStatus → Option (List ℤ)
held_with held (Unit z) = Some (held ++ z ∷ [])
held_with held Settled = None
held_with held False = None

-- the literals that hold after a hint
abbrev pub held_by : List (List ℤ) → List ℤ → ℕ → Option (List ℤ)
held_by clauses held hint = held_with held (look_on held (clause_at clauses hint) False)

-- the literals that hold after hints that are unit one after another
unfoldable pub held_after : List (List ℤ) → Option (List ℤ) → List ℕ → Option (List ℤ)
held_after clauses None hints = None
held_after clauses (Some held) [] = Some held
held_after clauses (Some held) (hint ∷ hints) = held_after clauses (held_by clauses held hint) hints

-- why the last hint is refused: its clause is not false
abbrev pub last_fault : ClauseStatus → Option Why
last_fault False = None
last_fault (Unit z) = Some why.NotFalse
last_fault Settled = Some why.NotFalse

-- the last hint, where the hints before it left these literals
abbrev pub judged_last : List (List ℤ) → Option (List ℤ) → ℕ → Option Why
judged_last clauses None hint = Some why.NotUnit
judged_last clauses (Some held) hint = last_fault (look_on held (clause_at clauses hint) False)

-- why the hints do not lead to a conflict, or none: all but the last are unit in turn, and the last is false
abbrev pub judged : List (List ℤ) → List ℤ → List ℕ → Option Why
judged clauses held hints =
    judged_last clauses (held_after clauses (Some held) (take (length hints - 1) hints)) (slice_index hints (length hints - 1))

-- hints that are numbers of clauses
abbrev pub AreHints : List (List ℤ) → List ℕ → Type 0
AreHints clauses hints = All (λ hint. (0 < hint) × (hint ≤ length clauses)) hints

-- the literals that hold, where a test passes
abbrev pub held_if : Bool → List ℤ → Option (List ℤ)
held_if true held = Some held
held_if false held = None
