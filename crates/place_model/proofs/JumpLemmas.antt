-- Legality of a jump, and the jumps that reach the labels.
use Rattle.std.proofs.Common.{ℕ, ◌≡◌, ◌<◌, ◌≤◌, ◌⊎◌, true, zero, suc, List, [], ◌∷◌, length, Option, Some, None, is_some, slice_get, refl, sym, ap, ◌∙◌, subst, inl, inr, arith}
use Rattle.std.specs.List.{list_any}
use Rattle.std.specs.Option.{option_map}
use Rattle.std.proofs.lemmas.Bool.{cases_lt}
use Rattle.std.proofs.lemmas.Option.{slice_get-map}
use Rattle.mcu_jumps.specs.Position.{Position}
use Rattle.mcu_jumps.specs.JumpWord.{JumpWord, ac_of}
use Rattle.mcu_jumps.specs.NextAddress.{lands}
use Rattle.mcu_jumps.specs.Landing.{outcomes_of, Serves}
use Rattle.mcu_jumps.specs.OneJump.{OneJumpToLabel}
use Rattle.flow_graph.specs.declared.instructions.Instr.{Instr}
use Rattle.flow_graph.specs.Targets.{AreTargets}
use Rattle.flow_graph.specs.Valid.{IsInstr}
use Rattle.place_model.specs.Cells.{IsAt, LandsTrapsFree, cell_of, cells_of}
use Rattle.place_model.specs.Legal.{MeetsLegality, IsJumpOf}

-- a label in range has a cell
pub cell_there : {X : Type 0} → (xs : List X) (label : ℕ) → label < length xs → (x : X) × (slice_get xs label ≡ Some x)
cell_there [] label within = absurd (omega arith)
cell_there (x ∷ xs) zero within = (x, refl)
cell_there (x ∷ xs) (suc label) within = cell_there xs label (omega arith)

-- a jump that meets legality reaches the labels
pub serves_labels : (place : List Position) (instr : Instr) (from : Position) (jump : JumpWord) → MeetsLegality place instr from jump
    → Serves from instr.kind (cells_of place instr.targets) jump
serves_labels place instr from jump meets = record {
  jump = meets.in_range;
  admitted = meets.admitted;
  lands = λ outcome cell h. go outcome cell (slice_get instr.targets outcome) refl
      (sym (slice_get-map (cell_of place) instr.targets outcome) ∙ h);
}
  where
    go : (outcome : ℕ) (cell : Position) (target : Option (Option ℕ)) → slice_get instr.targets outcome ≡ target
        → option_map (cell_of place) target ≡ Some (Some cell) → lands from jump outcome ≡ cell
    go outcome cell None at h = absurd (cc h)
    go outcome cell (Some None) at h = absurd (cc h)
    go outcome cell (Some (Some label)) at h = let landed = meets.landings outcome (Some label) at in cc

-- a jump that reaches the labels, and whose traps land on free cells, meets legality
pub meets_legality : (place : List Position) (instr : Instr) (from : Position) (jump : JumpWord) → AreTargets (length place) instr.targets
    → Serves from instr.kind (cells_of place instr.targets) jump → LandsTrapsFree place instr.targets from jump
    → MeetsLegality place instr from jump
meets_legality place instr from jump in_range serves free = record {
  in_range = serves.jump;
  admitted = serves.admitted;
  landings = landings;
}
  where
    landings : (outcome : ℕ) (target : Option ℕ) → slice_get instr.targets outcome ≡ Some target
        → IsAt place target (lands from jump outcome)
    landings outcome None at = free outcome at
    landings outcome (Some label) at =
        let there : (x : Position) × (slice_get place label ≡ Some x) = cell_there place label (in_range outcome label at) in
        let asked : slice_get (cells_of place instr.targets) outcome ≡ Some (Some there.0) =
        slice_get-map (cell_of place) instr.targets outcome ∙ ap (option_map (cell_of place)) at ∙ ap Some there.1 in
        there.1 ∙ ap Some (sym (serves.lands outcome there.0 asked))

-- one of the targets is a label
some_label : (targets : List (Option ℕ)) → list_any is_some targets ≡ true
    → (outcome label : ℕ) × (slice_get targets outcome ≡ Some (Some label))
some_label [] has = absurd (cc has)
some_label (Some label ∷ targets) has = (0, label, refl)
some_label (None ∷ targets) has = let later = some_label targets has in (suc later.0, later.1, later.2)

-- a single target that is a label leaves no trap
no_trap : (targets : List (Option ℕ)) (outcome : ℕ) → length targets ≤ 1 → list_any is_some targets ≡ true
    → slice_get targets outcome ≡ Some None → ⊥
no_trap [] outcome one has at = cc has
no_trap (None ∷ []) outcome one has at = cc has
no_trap (Some label ∷ []) zero one has at = cc at
no_trap (Some label ∷ []) (suc outcome) one has at = cc at
no_trap (x ∷ (y ∷ targets)) outcome one has at = omega arith

-- two jumps that meet legality are the same where there is more than one outcome
same_jump : OneJumpToLabel → (place : List Position) (instr : Instr) (from : Position) (one other : JumpWord)
    → IsInstr (length place) instr → 1 < outcomes_of instr.kind → Serves from instr.kind (cells_of place instr.targets) one
    → Serves from instr.kind (cells_of place instr.targets) other → one ≡ other
same_jump law place instr from one other valid more here there =
    let first = some_label instr.targets valid.some_label in
    let cell : (x : Position)
    × (slice_get place first.1 ≡ Some x) = cell_there place first.1 (valid.targets_in_range first.0 first.1 first.2) in
    let asked : slice_get (cells_of place instr.targets) first.0 ≡ Some (Some cell.0) =
    slice_get-map (cell_of place) instr.targets first.0 ∙ ap (option_map (cell_of place)) first.2 ∙ ap Some cell.1 in
    law instr.kind from cell.0 first.0 one other more here.admitted there.admitted (here.lands first.0 cell.0 asked)
    (there.lands first.0 cell.0 asked)

-- the traps of a jump that meets legality land on free cells
frees_traps : (place : List Position) (instr : Instr) (from : Position) (jump : JumpWord) → MeetsLegality place instr from jump
    → LandsTrapsFree place instr.targets from jump
frees_traps place instr from jump meets outcome at = meets.landings outcome None at

-- where the jump that reaches the labels has a trap on a label's cell, no jump meets legality
pub no_other_jump : OneJumpToLabel → (place : List Position) (instr : Instr) (from : Position) (jump : JumpWord)
    → IsInstr (length place) instr → Serves from instr.kind (cells_of place instr.targets) jump
    → (LandsTrapsFree place instr.targets from jump → ⊥) → (other : JumpWord) → MeetsLegality place instr from other → ⊥
no_other_jump law place instr from jump valid serves taken other meets = go (cases_lt 1 (outcomes_of instr.kind))
  where
    go : (1 < outcomes_of instr.kind) ⊎ (outcomes_of instr.kind ≤ 1) → ⊥
    go (inl more) =
        let same = same_jump law place instr from other jump valid more (serves_labels place instr from other meets) serves in
        let P : JumpWord → Type 0 = λ j. LandsTrapsFree place instr.targets from j in
        taken (subst P same (frees_traps place instr from other meets))
    go (inr one) = taken
        (λ outcome at. absurd (no_trap instr.targets outcome (omega (arith, valid.target_for_each_outcome)) valid.some_label at))

-- the least jump that reaches the labels is the least that meets legality, if its traps are free
pub least_of_labels : (place : List Position) (instr : Instr) (from : Position) (jump : JumpWord) → IsInstr (length place) instr
    → Serves from instr.kind (cells_of place instr.targets) jump
    → ((other : JumpWord) → Serves from instr.kind (cells_of place instr.targets) other → ac_of jump ≤ ac_of other)
    → LandsTrapsFree place instr.targets from jump → IsJumpOf place instr from jump
least_of_labels place instr from jump valid serves least free = record {
  meets = meets_legality place instr from jump valid.targets_in_range serves free;
  least = λ other meets. least other (serves_labels place instr from other meets);
}
