-- How many pins there are: no label is pinned twice.
use Rattle.std.proofs.Common.{◌≡◌, ◌≢◌, ℕ, suc, ◌<◌, ◌≤◌, inl, inr, true, false, eqb, List, [], ◌∷◌, length, map, Some, refl, sym, subst, arith}
use Rattle.std.specs.Prelude.{slice_get}
use Rattle.std.specs.List.{list_any, IsDistinct, AllByRecursion}
use Rattle.std.proofs.lemmas.Bool.{ne_eqb, eqb-true, or_cases}
use Rattle.std.proofs.lemmas.List.{length-map}
use Rattle.std.proofs.lemmas.Map.Steps.{length-le_from_distinct_below}
use Rattle.flow_graph.specs.declared.pinning.Pin.{Pin}
use Rattle.flow_graph.specs.Graph.{Graph, graph_of}
use Rattle.flow_graph.specs.declared.programs.Program.{Program}
use Rattle.placement_clauses.proofs.CanJump.{IsValid}

-- the label of a pin
abbrev label_of : Pin → ℕ
label_of pin = pin.label

-- a label that no pin has differs from the labels of all pins
others-differ : (label : ℕ) (pins : List Pin) → ((k : ℕ) (q : Pin) → slice_get pins k ≡ Some q → label ≢ q.label)
    → AllByRecursion (λ y. eqb label y ≡ false) (map label_of pins)
others-differ label [] h = tt
others-differ label (q ∷ pins) h = (ne_eqb label q.label (h 0 q refl), others-differ label pins (λ k r at. h (suc k) r at))

-- labels that are pinned once are distinct
labels-distinct : (pins : List Pin)
    → ((k l : ℕ) (p q : Pin) → slice_get pins k ≡ Some p → slice_get pins l ≡ Some q → p.label ≡ q.label → k ≡ l)
    → IsDistinct eqb (map label_of pins)
unfolding IsDistinct
labels-distinct [] once = tt
labels-distinct (p ∷ pins) once = (
  others-differ p.label pins (λ k q at e. let same : 0 ≡ suc k = once 0 (suc k) p q refl at e in absurd (omega arith)),
  labels-distinct pins (λ k l q r at_k at_l e. let same : suc k ≡ suc l = once (suc k) (suc l) q r at_k at_l e in omega arith),
)

-- a label among those of the pins is in range
label-in_range : (pins : List Pin) (n : ℕ) → ((k : ℕ) (p : Pin) → slice_get pins k ≡ Some p → p.label < n) → (label : ℕ)
    → list_any (eqb label) (map label_of pins) ≡ true → label < n
label-in_range [] n h label e = cc
label-in_range (p ∷ pins) n h label e =
    elim (or_cases (eqb label p.label) (list_any (eqb label) (map label_of pins)) e) as (λ _. label < n) [
      | inl here ↦ subst (λ l. l < n) (sym (eqb-true label p.label here)) (h 0 p refl)
      | inr later ↦ label-in_range pins n (λ k q at. h (suc k) q at) label later
    ]

-- there are at most as many pins as labels
few-pins : (g : Graph) → IsValid g → length g.pins ≤ length g.instrs
few-pins g valid =
    let long : length (map label_of g.pins) ≤ length g.instrs =
    length-le_from_distinct_below (map label_of g.pins) (length g.instrs) (labels-distinct g.pins valid.pinned_once)
    (label-in_range g.pins (length g.instrs) valid.pins_in_range) in
    subst (λ l. l ≤ length g.instrs) (length-map g.pins label_of) long

-- a program has at most 512 pins
pub few-pins_of : (program : Program) → length (graph_of program).pins ≤ 512
few-pins_of program =
    let few : length (graph_of program).pins ≤ length (graph_of program).instrs = few-pins (graph_of program) program.valid in
    let labels : length (graph_of program).instrs ≤ 512 = program.valid.cells_for_all in
    omega arith
