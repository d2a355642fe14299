-- The labels of a case, by their numbers (this project's own choice).
use Rattle.std.specs.Prelude.{ℕ, ◌+◌, ◌*◌, ◌/◌, ◌%◌, ◌==◌, Bool, not, List, [], ◌∷◌, ◌++◌, codes, decimal}
use Rattle.std.specs.List.{range_with_len, filter}
use Rattle.mcu_jumps.specs.Position.{Position}
use Rattle.gen_case.specs.declared.choices.Flow.{Flow}
use Rattle.gen_case.specs.declared.choices.Flow.TheVariants.{SameRow, SameColumn, OnFlag}

-- the first labels, as many as count
abbrev pub labels_below : ℕ → List ℕ
labels_below count = range_with_len 0 count

-- all 128 labels
unfoldable pub labels : List ℕ
labels = labels_below 128

-- seven of eight labels are pinned
abbrev pub is_pinned : ℕ → Bool
is_pinned label = not (label % 8 == 7)

-- the pinned labels, in order
unfoldable pub pinned_labels : List ℕ
pinned_labels = filter is_pinned labels

-- the name of a label: L and its number
abbrev pub label_name : ℕ → List ℕ
label_name label = codes "L" ++ decimal label

-- the labels fill the rows from the first one on
abbrev pub cell_of : ℕ → Position
cell_of label = record { row = label / 16; col = label % 16 }

-- the targets of a flow statement at a label: a label in its row, one in its column, or the two that a test of the
-- flag leads to, columns 2 and 3 of its half of a row
abbrev pub targets_of : ℕ → Flow → List ℕ
targets_of label (SameRow col) = (16 * (label / 16) + col) ∷ []
targets_of label (SameColumn row) = (16 * row + label % 16) ∷ []
targets_of label (OnFlag row) = (16 * row + 8 * (label / 8 % 2) + 2) ∷ (16 * row + 8 * (label / 8 % 2) + 3) ∷ []
