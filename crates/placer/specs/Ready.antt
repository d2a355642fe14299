-- What a search keeps for the analysis of its next conflict. No public contract cites this.

use Rattle.std.specs.Prelude.{ℕ, ◌+◌, ◌≤◌, ◌≡◌, false, List, length, take, replicate}
use Rattle.clause_base.specs.declared.entry.Entry.{Entry}
use Rattle.placer.specs.Marking.{ArePlaces}
use Rattle.placer.specs.declared.workspace.Workspace.{Workspace}

-- the places of the first entries are noted, and nothing is marked
pub record IsReady (vars : ℕ) (es : List Entry) (w : Workspace) : Type 0 where
  pub within : w.known ≤ length es
  pub told : ArePlaces vars (take w.known es) w.places.items
  pub blank : w.marks.items ≡ replicate (vars + 1) false
