-- The program of accepted lines that name known labels alone fits together.
use Rattle.std.proofs.Common.{◌≡◌, ℕ, ◌<◌, Bool, true, false, not, cond, List, [], ◌∷◌, length, Option, Some, None, Ok, is_some, refl, sym, ap, subst, ◌∙◌, arith, ltb, inl, inr}
use Rattle.std.specs.Prelude.{map, slice_get, find, unwrap_or, option_map, All}
use Rattle.std.specs.List.{list_any}
use Rattle.std.specs.Str.{bytes_eq}
use Rattle.std.proofs.lemmas.Bool.{cases_Bool, not-false, or_parts, or_left}
use Rattle.std.proofs.lemmas.Cmp.{nat_list_eq_equiv}
use Rattle.std.proofs.lemmas.List.{length-map}
use Rattle.std.proofs.lemmas.List.Elements.{All-get_or}
use Rattle.std.proofs.lemmas.Option.{get_or_from_slice_get, slice_get_within, slice_get-map}
use Rattle.field_decl.specs.Declaration.{Declaration}
use Rattle.field_decl.specs.Earlier.{Declared, declaration_with}
use Rattle.field_decl.specs.Layout.{completed_with, completed}
use Rattle.flow_graph.specs.declared.instructions.Instr.{Instr}
use Rattle.flow_graph.specs.declared.pinning.Pin.{Pin}
use Rattle.flow_graph.specs.Microwords.{FitsDeclaration, AllFitDeclaration}
use Rattle.flow_graph.specs.Targets.{AreTargets}
use Rattle.flow_graph.specs.Valid.{IsInstr, IsProgram}
use Rattle.micro_asm.specs.declared.accepted_lines.StartLine.{StartLine}
use Rattle.micro_asm.specs.declared.accepted_lines.PinLine.{PinLine}
use Rattle.micro_asm.specs.declared.accepted_lines.NamedInstr.{NamedInstr}
use Rattle.micro_asm.specs.Earlier.{Facts, IsSound, IsNamedInstr, declaration_so_far, has_label, labels_of, pinned_labels}
use Rattle.micro_asm.specs.Source.{is_unknown, unknown_start, unknown_pin, unknown_target, unknown_line, first_line, label_place, target_place, pin_of, instr_of}
use Rattle.micro_asm.proofs.LabelLemmas.{missed_at, from_map, StandsAt, stands, place_within, apart_at}

-- ---- no line names an unknown label

no_line : (line other : Option ℕ) → first_line line other ≡ None → (line ≡ None) × (other ≡ None)
no_line None other none = (refl, none)
no_line (Some line) None none = absurd (cc none)
no_line (Some line) (Some other) none = elim (cases_Bool (ltb other line)) [
  | inl before ↦ (let e : Some other ≡ None = sym (ap (λ (b : Bool). cond b (Some other) (Some line)) before) ∙ none in absurd (cc e))
  | inr after ↦ (let e : Some line ≡ None = sym (ap (λ (b : Bool). cond b (Some other) (Some line)) after) ∙ none in absurd (cc e))
]

unmapped : {A B : Type 0} (f : A → B) (o : Option A) → option_map f o ≡ None → o ≡ None
unmapped f None none = refl
unmapped f (Some x) none = absurd (cc none)

-- all labels that accepted lines name are known
record AreKnown (facts : Facts) (start : StartLine) : Type 0 where
  pub start_known : has_label facts.instrs start.label ≡ true
  pub pins_known : (k : ℕ) (pin : PinLine) → slice_get facts.pins k ≡ Some pin → has_label facts.instrs pin.label ≡ true
  pub targets_known : (k : ℕ) (instr : NamedInstr) → slice_get facts.instrs k ≡ Some instr
      → list_any (is_unknown facts.instrs) instr.targets ≡ false

are_known : (facts : Facts) (start : StartLine) → unknown_line facts start ≡ None → AreKnown facts start
are_known facts start none =
    let instrs : List NamedInstr = facts.instrs in
    let one : (unknown_start instrs start ≡ None) × (first_line (unknown_pin instrs facts.pins) (unknown_target instrs) ≡ None) =
    no_line (unknown_start instrs start) (first_line (unknown_pin instrs facts.pins) (unknown_target instrs)) none in
    let two : (unknown_pin instrs facts.pins ≡ None)
    × (unknown_target instrs ≡ None) = no_line (unknown_pin instrs facts.pins) (unknown_target instrs) one.1 in
    record {
      start_known = known (has_label instrs start.label) start.line one.0;
      pins_known = λ k pin at. not-false (has_label instrs pin.label)
          (missed_at (λ (p : PinLine). not (has_label instrs p.label)) facts.pins k pin
          (unmapped (λ (p : PinLine). p.line) (find (λ (p : PinLine). not (has_label instrs p.label)) facts.pins) two.0) at);
      targets_known = λ k instr at. missed_at (λ (i : NamedInstr). list_any (is_unknown instrs) i.targets) instrs k instr
          (unmapped (λ (i : NamedInstr). i.line) (find (λ (i : NamedInstr). list_any (is_unknown instrs) i.targets) instrs) two.1) at;
    }
  where
    known : (b : Bool) (line : ℕ) → cond b None (Some line) ≡ None → b ≡ true
    known true line none = refl
    known false line none = absurd (cc none)

-- ---- targets

-- known targets of which one is a label are labels in range of which one is a label
some_target : (instrs : List NamedInstr) (targets : List (Option (List ℕ))) → list_any (is_unknown instrs) targets ≡ false
    → list_any is_some targets ≡ true → list_any is_some (map (target_place instrs) targets) ≡ true
some_target instrs [] known has = absurd (cc has)
some_target instrs (None ∷ targets) known has = some_target instrs targets known has
some_target instrs (Some name ∷ targets) known has =
    let here : not (has_label instrs name) ≡ false =
    (or_parts (not (has_label instrs name)) (list_any (is_unknown instrs) targets) known).0 in
    let place : (place : ℕ) × StandsAt instrs name place = stands instrs name (not-false (has_label instrs name) here) in
    or_left (is_some (label_place instrs name)) (list_any is_some (map (target_place instrs) targets)) (ap is_some place.1.is_place)

targets_within : (instrs : List NamedInstr) (targets : List (Option (List ℕ)))
    → AreTargets (length instrs) (map (target_place instrs) targets)
targets_within instrs targets outcome label at =
    let from : (target : Option (List ℕ)) × (slice_get targets outcome ≡ Some target)
    × (target_place instrs target ≡ Some label) = from_map (target_place instrs) targets outcome (Some label) at in
    within from.0 from.2
  where
    within : (target : Option (List ℕ)) → target_place instrs target ≡ Some label → label < length instrs
    within None is_place = absurd (cc is_place)
    within (Some name) is_place = place_within instrs name label is_place

-- ---- instructions

all_at : {X : Type 0} (P : X → Type 0) (xs : List X) (k : ℕ) (x : X) → All P xs → slice_get xs k ≡ Some x → P x
all_at P xs k x all at = subst P (get_or_from_slice_get xs k x x at) (All-get_or P xs k x (slice_get_within xs k x at) all)

label_at : (all instrs : List NamedInstr) (k : ℕ) (instr : Instr) → slice_get (map (instr_of all) instrs) k ≡ Some instr
    → slice_get (labels_of instrs) k ≡ Some instr.name
label_at all instrs k instr at =
    let from : (line : NamedInstr) × (slice_get instrs k ≡ Some line)
    × (instr_of all line ≡ instr) = from_map (instr_of all) instrs k instr at in
    slice_get-map (λ (i : NamedInstr). i.label) instrs k ∙ ap (option_map (λ (i : NamedInstr). i.label)) from.1
    ∙ ap (λ (i : Instr). Some i.name) from.2

instr_fits : (facts : Facts) (start : StartLine) → IsSound facts → AreKnown facts start → (k : ℕ) (instr : Instr)
    → slice_get (map (instr_of facts.instrs) facts.instrs) k ≡ Some instr
    → IsInstr (length (map (instr_of facts.instrs) facts.instrs)) instr
instr_fits facts start sound known k instr at =
    let instrs : List NamedInstr = facts.instrs in
    let from : (line : NamedInstr) × (slice_get instrs k ≡ Some line)
    × (instr_of instrs line ≡ instr) = from_map (instr_of instrs) instrs k instr at in
    let line : IsNamedInstr (declaration_so_far facts.declared) from.0 =
    all_at (IsNamedInstr (declaration_so_far facts.declared)) instrs k from.0 sound.instrs from.1 in
    let count : length instrs ≡ length (map (instr_of instrs) instrs) = sym (length-map instrs (instr_of instrs)) in
    let placed : IsInstr (length instrs) (instr_of instrs from.0) = record {
      name_not_empty = line.name.some;
      name_size = line.name.short;
      target_for_each_outcome = length-map from.0.targets (target_place instrs) ∙ line.targets.target_for_each_outcome;
      targets_in_range = targets_within instrs from.0.targets;
      some_label = some_target instrs from.0.targets (known.targets_known k from.0 from.1) line.targets.some_label;
    } in
    subst (λ (n : ℕ). IsInstr n instr) count (subst (IsInstr (length instrs)) from.2 placed)

-- ---- pins

-- a pin's label is in range, and its instruction has the label
record IsPlaced (facts : Facts) (k : ℕ) (pin : Pin) : Type 0 where
  pub line : PinLine
  pub at : slice_get (pinned_labels facts.pins) k ≡ Some line.label
  pub stands_at : StandsAt facts.instrs line.label pin.label

pin_placed : (facts : Facts) (start : StartLine) → AreKnown facts start → (k : ℕ) (pin : Pin)
    → slice_get (map (pin_of facts.instrs) facts.pins) k ≡ Some pin → IsPlaced facts k pin
pin_placed facts start known k pin at =
    let from : (line : PinLine) × (slice_get facts.pins k ≡ Some line)
    × (pin_of facts.instrs line ≡ pin) = from_map (pin_of facts.instrs) facts.pins k pin at in
    let place : (place : ℕ)
    × StandsAt facts.instrs from.0.label place = stands facts.instrs from.0.label (known.pins_known k from.0 from.1) in
    let label : place.0 ≡ pin.label = sym (ap (λ (o : Option ℕ). unwrap_or o 0) place.1.is_place) ∙ ap (λ (p : Pin). p.label) from.2 in
    record {
      line = from.0;
      at = slice_get-map (λ (p : PinLine). p.label) facts.pins k ∙ ap (option_map (λ (p : PinLine). p.label)) from.1;
      stands_at = subst (StandsAt facts.instrs from.0.label) label place.1;
    }

-- names that stand at one place are one name
same_name : (instrs : List NamedInstr) (a b : List ℕ) (i j : ℕ) → StandsAt instrs a i → StandsAt instrs b j → i ≡ j → bytes_eq a b ≡ true
same_name instrs a b i j at_i at_j same =
    let one : Some at_i.instr ≡ Some at_j.instr = sym at_i.at ∙ ap (slice_get instrs) same ∙ at_j.at in
    let instr : at_i.instr ≡ at_j.instr = cc one in
    let mine : bytes_eq a at_j.instr.label ≡ true = subst (λ (x : NamedInstr). bytes_eq a x.label ≡ true) instr at_i.named in
    nat_list_eq_equiv.congr a at_j.instr.label b mine ∙ nat_list_eq_equiv.symm at_j.instr.label b ∙ at_j.named

-- ---- the whole

pub program_fits : (facts : Facts) (start : StartLine) → IsSound facts → unknown_line facts start ≡ None
    → IsProgram (unwrap_or facts.rows 32) (unwrap_or (label_place facts.instrs start.label) 0) (map (pin_of facts.instrs) facts.pins)
    (map (instr_of facts.instrs) facts.instrs)
program_fits facts start sound none =
    let instrs : List NamedInstr = facts.instrs in
    let known : AreKnown facts start = are_known facts start none in
    let count : length (map (instr_of instrs) instrs) ≡ length instrs = length-map instrs (instr_of instrs) in
    let first : (place : ℕ) × StandsAt instrs start.label place = stands instrs start.label known.start_known in
    record {
      some_row = sound.some_row;
      rows_in_matrix = sound.most_rows;
      cells_for_all = omega (arith, count, sound.few);
      start_in_range = rw (first.1.is_place, count) first.1.within;
      each_instr = instr_fits facts start sound known;
      names_differ = λ i j x y at_i at_j same.
          apart_at (labels_of instrs) i j x.name y.name sound.labels_apart (label_at instrs instrs i x at_i)
          (label_at instrs instrs j y at_j) (subst (λ (n : List ℕ). bytes_eq x.name n ≡ true) same (nat_list_eq_equiv.refl x.name));
      pins_in_range = λ k pin at. rw count (pin_placed facts start known k pin at).stands_at.within;
      pinned_once = λ k l p q at_k at_l same.
          (let placed_p = pin_placed facts start known k p at_k in
          let placed_q = pin_placed facts start known l q at_l in
          apart_at (pinned_labels facts.pins) k l placed_p.line.label placed_q.line.label sound.pins_apart placed_p.at placed_q.at
          (same_name instrs placed_p.line.label placed_q.line.label p.label q.label placed_p.stands_at placed_q.stands_at same));
    }

-- a start whose label is known has a place
pub start_placed : (facts : Facts) (start : StartLine) → unknown_line facts start ≡ None → label_place facts.instrs start.label ≡ None → ⊥
start_placed facts start none lost =
    let first : (place : ℕ)
    × StandsAt facts.instrs start.label place = stands facts.instrs start.label (are_known facts start none).start_known in
    let e : Some first.0 ≡ None = sym first.1.is_place ∙ lost in
    cc e

-- what is completed is what was declared
completes : (slices : Option ℕ) (declared : Declared) (decl : Declaration) → completed_with slices declared ≡ Ok decl
    → declaration_with (unwrap_or slices 1) declared ≡ decl
completes None declared decl e = absurd (cc e)
completes (Some slices) declared decl e = cc e

microword_fits : (facts : Facts) (decl : Declaration) → IsSound facts → completed facts.declared ≡ Ok decl → (label : ℕ) (instr : Instr)
    → slice_get (map (instr_of facts.instrs) facts.instrs) label ≡ Some instr → FitsDeclaration decl instr
microword_fits facts decl sound e label instr at =
    let instrs : List NamedInstr = facts.instrs in
    let from : (line : NamedInstr) × (slice_get instrs label ≡ Some line)
    × (instr_of instrs line ≡ instr) = from_map (instr_of instrs) instrs label instr at in
    let line : IsNamedInstr (declaration_so_far facts.declared) from.0 =
    all_at (IsNamedInstr (declaration_so_far facts.declared)) instrs label from.0 sound.instrs from.1 in
    let placed : FitsDeclaration (declaration_so_far facts.declared) (instr_of instrs from.0) =
    record { function = line.function; kbits = line.kbits; shift = line.shift; values = line.values } in
    subst (λ (d : Declaration). FitsDeclaration d instr) (completes facts.declared.slices facts.declared decl e)
    (subst (FitsDeclaration (declaration_so_far facts.declared)) from.2 placed)

pub microwords_fit : (facts : Facts) (decl : Declaration) → IsSound facts → completed facts.declared ≡ Ok decl
    → AllFitDeclaration decl (map (instr_of facts.instrs) facts.instrs)
microwords_fit facts decl sound e = record { each = microword_fits facts decl sound e }
