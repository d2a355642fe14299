-- The reply of `map` over files is one, where the program of the source is valid.
use Rattle.std.proofs.Common.{ℕ, suc, ◌≡◌, ◌<◌, ◌⊎◌, inl, inr, List, [], ◌∷◌, ◌++◌, length, Option, Some, slice_get, refl, sym, ap, ap₂, ◌∙◌, subst, arith}
use Rattle.std.proofs.lemmas.Bool.{cases_order}
use Rattle.std.proofs.lemmas.Option.{slice_get_within}
use Rattle.mcu_jumps.specs.Position.{Position}
use Rattle.mcu_jumps.specs.JumpWord.{JumpWord, ac_of}
use Rattle.flow_graph.specs.declared.instructions.Instr.{Instr}
use Rattle.flow_graph.specs.Graph.{Graph}
use Rattle.flow_graph.specs.Valid.{IsProgram}
use Rattle.field_decl.specs.declared.refusal.Refusal.TheVariants.{At}
use Rattle.place_model.specs.Legal.{KeepsPins, IsLegal, IsJumpOf, origin}
use Rattle.place_model.specs.MapText.{map_line, AreLines}
use Rattle.place_model.specs.Faults.{IsWrong, IsRight, IsFirstFault}
use Rattle.place_model.specs.Pinned.{ArePinnedCells, IsFirstUnpinned, IsRefusal}
use Rattle.place_model.specs.declared.faults.MapKind.{MapKind}
use Rattle.place_model.specs.declared.faults.MapKind.TheVariants.{Unpinned, SameCell, RowBound, StartCell, NoJump}
use Rattle.place_model.proofs.PinLemmas.{KeepsPins-from_pinned}
use Rattle.prom_split.specs.Codes.{jump_at}
use Rattle.prom_split.proofs.CodesBack.{jump_back}
use Rattle.prom_split.proofs.ListSteps.{element_at}
use Rattle.replies.specs.Texts.{Refuses, line_reason}
use Rattle.replies.specs.declared.status.Status.{Status}
use Rattle.micro_cli.specs.Mapping.{ProgramReply, map_kind_name}
use Rattle.micro_cli.specs.OverFiles.{GivesProgram}
use Rattle.micro_cli.specs.Replying.{MapOver}
use Rattle.micro_cli.proofs.OneParse.{AreOneReply, refuses_once}
use Rattle.micro_cli.proofs.OneReply.{program_once, lacks_program_once, program_or_not}

-- ---- the cells of the pins

same_elements : {A : Type 0} → (xs ys : List A) → length xs ≡ length ys
    → ((k : ℕ) (x : A) → slice_get xs k ≡ Some x → slice_get ys k ≡ Some x) → xs ≡ ys
same_elements [] [] e h = refl
same_elements [] (y ∷ ys) e h = absurd (omega arith)
same_elements (x ∷ xs) [] e h = absurd (omega arith)
same_elements (x ∷ xs) (y ∷ ys) e h =
    let here : Some y ≡ Some x = h 0 x refl in
    let same : x ≡ y = cc in
    ap₂ (λ a rest. a ∷ rest) same (same_elements xs ys (omega arith) (λ k a at. h (suc k) a at))

cells_once : (g : Graph) (p q : List Position) → KeepsPins g.pins q → ArePinnedCells g p → ArePinnedCells g q → p ≡ q
cells_once g p q keeps one two =
    same_elements p q (one.cell_for_each_label ∙ sym two.cell_for_each_label) (λ label cell at.
    let pin = one.pinned label cell at in
    keeps pin.0 (record { label = label; cell = cell }) pin.1)

-- ---- the map's text

-- two least jumps are one
one_jump : (place : List Position) (instr : Instr) (from : Position) (a b : JumpWord) → IsJumpOf place instr from a
    → IsJumpOf place instr from b → a ≡ b
one_jump place instr from a b p q =
    let ac : ac_of a ≡ ac_of b = omega (arith, p.least b q.meets, q.least a p.meets) in
    sym (jump_back a p.meets.in_range) ∙ ap jump_at ac ∙ jump_back b q.meets.in_range

lines_once : (place : List Position) (instrs : List Instr) (cells : List Position) (text other : List ℕ)
    → AreLines place instrs cells text → AreLines place instrs cells other → text ≡ other
lines_once place [] [] text other one two = one ∙ sym two
lines_once place [] (cell ∷ cells) text other one two = absurd one
lines_once place (instr ∷ instrs) [] text other one two = absurd one
lines_once place (instr ∷ instrs) (cell ∷ cells) text other (a, rest, is, eq, more) (b, rest_too, is_too, eq_too, more_too) =
    eq
    ∙ ap₂ (λ (jump : JumpWord) (after : List ℕ). map_line instr.name cell jump ++ after) (one_jump place instr cell a b is is_too)
    (lines_once place instrs cells rest rest_too more more_too)
    ∙ sym eq_too

-- ---- what is wrong with pins

-- two labels' instruction or cell is one where the labels are
same_some : {A : Type 0} → (xs : List A) (i j : ℕ) (x y : A) → i ≡ j → slice_get xs i ≡ Some x → slice_get xs j ≡ Some y → x ≡ y
same_some xs i j x y same at_i at_j = let both : Some x ≡ Some y = sym at_i ∙ ap (slice_get xs) same ∙ at_j in cc

unpinned_once : (g : Graph) (line other : ℕ) → IsFirstUnpinned g line → IsFirstUnpinned g other → line ≡ other
unpinned_once g line other (a, instr, at, is, none, earlier) (b, instr_too, at_too, is_too, none_too, earlier_too) = go (cases_order a b)
  where
    go : (a ≡ b) ⊎ ((a < b) ⊎ (b < a)) → line ≡ other
    go (inl same) = sym is ∙ ap (λ (x : Instr). x.line) (same_some g.instrs a b instr instr_too same at at_too) ∙ is_too
    go (inr (inl less)) =
        let pin = earlier_too a less in absurd (none pin.1.0 (record { label = a; cell = pin.0 }) pin.1.1 refl)
    go (inr (inr more)) =
        let pin = earlier b more in absurd (none_too pin.1.0 (record { label = b; cell = pin.0 }) pin.1.1 refl)

unpinned_or_pinned : (g : Graph) (place : List Position) (line : ℕ) → IsFirstUnpinned g line → ArePinnedCells g place → ⊥
unpinned_or_pinned g place line (label, instr, at, is, none, earlier) pinned =
    let within : label < length place =
    subst (λ (n : ℕ). label < n) (sym pinned.cell_for_each_label) (slice_get_within g.instrs label instr at) in
    let cell = element_at place label within in
    let pin = pinned.pinned label cell.0 cell.1 in
    none pin.0 (record { label = label; cell = cell.0 }) pin.1 refl

-- ---- what is wrong with pinned cells

right_or_wrong : (g : Graph) (place : List Position) (label : ℕ) (instr : Instr) (cell : Position) (kind : MapKind)
    → IsRight g place label instr cell → IsWrong g place label instr cell kind → ⊥
right_or_wrong g place label instr cell Unpinned right wrong = wrong
right_or_wrong g place label instr cell SameCell right wrong = right.apart wrong.0 wrong.1 wrong.2
right_or_wrong g place label instr cell RowBound right wrong = omega (arith, right.below_bound, wrong.1)
right_or_wrong g place label instr cell StartCell right wrong = wrong.3 (right.start_at_origin wrong.2)
right_or_wrong g place label instr cell NoJump right wrong = wrong.3 right.has_jump.0 right.has_jump.1

wrong_once : (g : Graph) (place : List Position) (label : ℕ) (instr : Instr) (cell : Position) (a b : MapKind)
    → IsWrong g place label instr cell a → IsWrong g place label instr cell b → a ≡ b
wrong_once g place label instr cell Unpinned b one two = absurd one
wrong_once g place label instr cell SameCell Unpinned one two = absurd two
wrong_once g place label instr cell SameCell SameCell one two = refl
wrong_once g place label instr cell SameCell RowBound one two = absurd (two.0 one.0 one.1 one.2)
wrong_once g place label instr cell SameCell StartCell one two = absurd (two.0 one.0 one.1 one.2)
wrong_once g place label instr cell SameCell NoJump one two = absurd (two.0 one.0 one.1 one.2)
wrong_once g place label instr cell RowBound Unpinned one two = absurd two
wrong_once g place label instr cell RowBound SameCell one two = absurd (one.0 two.0 two.1 two.2)
wrong_once g place label instr cell RowBound RowBound one two = refl
wrong_once g place label instr cell RowBound StartCell one two = absurd (omega (arith, one.1, two.1))
wrong_once g place label instr cell RowBound NoJump one two = absurd (omega (arith, one.1, two.1))
wrong_once g place label instr cell StartCell Unpinned one two = absurd two
wrong_once g place label instr cell StartCell SameCell one two = absurd (one.0 two.0 two.1 two.2)
wrong_once g place label instr cell StartCell RowBound one two = absurd (omega (arith, one.1, two.1))
wrong_once g place label instr cell StartCell StartCell one two = refl
wrong_once g place label instr cell StartCell NoJump one two = absurd (one.3 (two.2 one.2))
wrong_once g place label instr cell NoJump Unpinned one two = absurd two
wrong_once g place label instr cell NoJump SameCell one two = absurd (one.0 two.0 two.1 two.2)
wrong_once g place label instr cell NoJump RowBound one two = absurd (omega (arith, one.1, two.1))
wrong_once g place label instr cell NoJump StartCell one two = absurd (two.3 (one.2 two.2))
wrong_once g place label instr cell NoJump NoJump one two = refl

fault_once : (g : Graph) (place : List Position) (line other : ℕ) (kind kind_too : MapKind) → IsFirstFault g place line kind
    → IsFirstFault g place other kind_too → (line ≡ other) × (kind ≡ kind_too)
fault_once g place line other kind kind_too (a, instr, cell, stands, is, wrong, below)
    (b, instr_too, cell_too, stands_too, is_too, wrong_too, below_too) = go (cases_order a b)
  where
    go : (a ≡ b) ⊎ ((a < b) ⊎ (b < a)) → (line ≡ other) × (kind ≡ kind_too)
    go (inl same) =
        let instrs : instr ≡ instr_too = same_some g.instrs a b instr instr_too same stands.at_label stands_too.at_label in
        let cells : cell ≡ cell_too = same_some place a b cell cell_too same stands.at_cell stands_too.at_cell in
        let by_label : ℕ → Type 0 = λ l. IsWrong g place l instr cell kind in
        let by_instr : Instr → Type 0 = λ i. IsWrong g place b i cell kind in
        let by_cell : Position → Type 0 = λ c. IsWrong g place b instr_too c kind in (
          sym is ∙ ap (λ (x : Instr). x.line) instrs ∙ is_too,
          wrong_once g place b instr_too cell_too kind kind_too
              (subst by_cell cells (subst by_instr instrs (subst by_label same wrong))) wrong_too,
        )
    go (inr (inl less)) = absurd (right_or_wrong g place a instr cell kind (below_too a less instr cell stands) wrong)
    go (inr (inr more)) =
        absurd (right_or_wrong g place b instr_too cell_too kind_too (below b more instr_too cell_too stands_too) wrong_too)

legal_or_wrong : (g : Graph) (place : List Position) (label : ℕ) (instr : Instr) (cell : Position) (kind : MapKind)
    → IsLegal g place → slice_get g.instrs label ≡ Some instr → slice_get place label ≡ Some cell
    → IsWrong g place label instr cell kind → ⊥
legal_or_wrong g place label instr cell Unpinned legal at_label at_cell wrong = wrong
legal_or_wrong g place label instr cell SameCell legal at_label at_cell wrong =
    omega (arith, legal.cells_differ wrong.0 label cell wrong.2 at_cell, wrong.1)
legal_or_wrong g place label instr cell RowBound legal at_label at_cell wrong =
    omega (arith, legal.below_bound label cell at_cell, wrong.1)
legal_or_wrong g place label instr cell StartCell legal at_label at_cell wrong =
    wrong.3 (same_some place label g.start cell origin wrong.2 at_cell legal.start_at_origin)
legal_or_wrong g place label instr cell NoJump legal at_label at_cell wrong =
    let jump = legal.each_has_jump label instr cell at_label at_cell in wrong.3 jump.0 jump.1

-- ---- refusals

-- a refusal is for a label with no pin, or for the first fault of the pinned cells
refusal_of : (g : Graph) (line : ℕ) (kind : MapKind) → IsRefusal g (At line kind)
    → ((kind ≡ Unpinned) × IsFirstUnpinned g line)
    ⊎ ((place : List Position) × ArePinnedCells g place × IsFirstFault g place line kind)
refusal_of g line Unpinned refusal = inl (refl, refusal)
refusal_of g line SameCell refusal = inr refusal
refusal_of g line RowBound refusal = inr refusal
refusal_of g line StartCell refusal = inr refusal
refusal_of g line NoJump refusal = inr refusal

refusal_once : (g : Graph) (line other : ℕ) (kind kind_too : MapKind) → IsProgram g.rows g.start g.pins g.instrs
    → IsRefusal g (At line kind) → IsRefusal g (At other kind_too) → (line ≡ other) × (kind ≡ kind_too)
refusal_once g line other kind kind_too valid one two = go (refusal_of g line kind one) (refusal_of g other kind_too two)
  where
    go : ((kind ≡ Unpinned) × IsFirstUnpinned g line)
        ⊎ ((place : List Position) × ArePinnedCells g place × IsFirstFault g place line kind)
        → ((kind_too ≡ Unpinned) × IsFirstUnpinned g other)
        ⊎ ((place : List Position) × ArePinnedCells g place × IsFirstFault g place other kind_too)
        → (line ≡ other) × (kind ≡ kind_too)
    go (inl a) (inl b) = (unpinned_once g line other a.1 b.1, a.0 ∙ sym b.0)
    go (inl a) (inr (place, pinned, fault)) = absurd (unpinned_or_pinned g place line a.1 pinned)
    go (inr (place, pinned, fault)) (inl b) = absurd (unpinned_or_pinned g place other b.1 pinned)
    go (inr (p, pinned, fault)) (inr (q, pinned_too, fault_too)) =
        let same : p ≡ q = cells_once g p q (KeepsPins-from_pinned g q valid pinned_too) pinned pinned_too in
        let P : List Position → Type 0 = λ place. IsFirstFault g place line kind in
        fault_once g q line other kind kind_too (subst P same fault) fault_too

-- pins that give a legal placement are not refused
legal_or_refused : (g : Graph) (place : List Position) (line : ℕ) (kind : MapKind) → ArePinnedCells g place → IsLegal g place
    → IsRefusal g (At line kind) → ⊥
legal_or_refused g place line kind pinned legal refusal = go (refusal_of g line kind refusal)
  where
    go : ((kind ≡ Unpinned) × IsFirstUnpinned g line)
        ⊎ ((other : List Position) × ArePinnedCells g other × IsFirstFault g other line kind) → ⊥
    go (inl none) = unpinned_or_pinned g place line none.1 pinned
    go (inr (other, pinned_too, fault)) =
        let same : other ≡ place = cells_once g other place legal.pins_kept pinned_too pinned in
        let P : List Position → Type 0 = λ cells. IsFirstFault g cells line kind in
        let first = subst P same fault in
        legal_or_wrong g place first.0 first.1 first.2 kind legal first.3.at_label first.3.at_cell first.5

-- ---- the reply

program_reply_once : (src : List ℕ) (g : Graph) (s t : Status) (text other : List ℕ) → IsProgram g.rows g.start g.pins g.instrs
    → ProgramReply src g s text → ProgramReply src g t other → AreOneReply s t text other
program_reply_once src g s t text other valid (inl one) (inl two) =
    let same : one.place ≡ two.place = cells_once g one.place two.place two.legal.pins_kept one.pinned two.pinned in
    let P : List Position → Type 0 = λ place. AreLines place g.instrs place text in (
      one.status_is ∙ sym two.status_is,
      lines_once two.place g.instrs two.place text other (subst P same one.map) two.map,
    )
program_reply_once src g s t text other valid (inl one) (inr two) =
    absurd (legal_or_refused g one.place two.line two.kind one.pinned one.legal two.refusal)
program_reply_once src g s t text other valid (inr one) (inl two) =
    absurd (legal_or_refused g two.place one.line one.kind two.pinned two.legal one.refusal)
program_reply_once src g s t text other valid (inr one) (inr two) =
    let same = refusal_once g one.line two.line one.kind two.kind valid one.refusal two.refusal in
    let by_line : ℕ → Type 0 = λ line. Refuses src (line_reason line (map_kind_name one.kind)) s text in
    let by_kind : MapKind → Type 0 = λ kind. Refuses src (line_reason two.line (map_kind_name kind)) s text in
    refuses_once src (line_reason two.line (map_kind_name two.kind)) s t text other
    (subst by_kind same.1 (subst by_line same.0 one.reply)) two.reply

pub map_once : (files : List ℕ → Option (List ℕ)) (src : List ℕ) (s t : Status) (text other : List ℕ)
    → ((g : Graph) → GivesProgram files src g → IsProgram g.rows g.start g.pins g.instrs)
    → MapOver files src s text → MapOver files src t other → AreOneReply s t text other
map_once files src s t text other valid (inl one) (inl two) = lacks_program_once files src s t text other one two
map_once files src s t text other valid (inl one) (inr (g, gives, two)) = absurd (program_or_not files src g s text one gives)
map_once files src s t text other valid (inr (g, gives, one)) (inl two) = absurd (program_or_not files src g t other two gives)
map_once files src s t text other valid (inr (g, gives, one)) (inr (h, gives_too, two)) =
    let same : g ≡ h = program_once files src g h gives gives_too in
    let P : Graph → Type 0 = λ x. ProgramReply src x s text in
    program_reply_once src h s t text other (valid h gives_too) (subst P same one) two
