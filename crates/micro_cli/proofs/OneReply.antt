-- The reply of `flow`, `run` and `check` over files is one.
use Rattle.std.proofs.Common.{ℕ, ◌≡◌, ◌<◌, ◌⊎◌, inl, inr, List, get_or, Option, None, Some, Ok, sym, ap₂, ◌∙◌, subst, arith}
use Rattle.std.specs.Prelude.{◌^◌, codes}
use Rattle.std.proofs.lemmas.Bool.{cases_order}
use Rattle.std.proofs.lemmas.Grind.{same_number_lists}
use Rattle.std.proofs.lemmas.List.Elements.{All-get_or}
use Rattle.std.proofs.lemmas.Nat.Bits.{same_from_bits_below}
use Rattle.mcu_jumps.specs.Position.{Position, address_of}
use Rattle.bpnf.specs.Image.{Image}
use Rattle.bpnf.specs.Reading.{reading}
use Rattle.bpnf.proofs.NothingElseIsAllowed.{only_reading}
use Rattle.field_decl.specs.Declaration.{Declaration}
use Rattle.flow_graph.specs.Graph.{Graph}
use Rattle.micro_asm.specs.Source.{source_of}
use Rattle.bus_script.specs.Script.{BusScript, script_of}
use Rattle.clause_encode.specs.PlacementList.{list_of}
use Rattle.prom_split.specs.Parts.{width_of}
use Rattle.prom_split.specs.Images.{image_count, AreJoined}
use Rattle.prom_split.proofs.ListSteps.{element_at}
use Rattle.prom_split.proofs.PlacedSteps.{same_cell}
use Rattle.prom_split.proofs.SplitSteps.{image_with}
use Rattle.prom_split.proofs.JoinedBack.{same_images}
use Rattle.bus_bench.specs.BadShift.{IsFirstBadShift}
use Rattle.refute_check.specs.Taken.{check_file}
use Rattle.refute_check.specs.declared.checked.Checked.{Checked}
use Rattle.saved_files.specs.FileNames.{layout_name, image_name}
use Rattle.field_decl.specs.Layout.{layout_of}
use Rattle.prom_files.specs.LayoutStep.{layout_limit}
use Rattle.prom_files.specs.ImagesStep.{image_limit}
use Rattle.prom_files.specs.ImageTexts.{bpnf_reason}
use Rattle.replies.specs.Texts.{Refuses}
use Rattle.replies.specs.SourceStep.{source_limit}
use Rattle.replies.specs.ScriptStep.{script_limit}
use Rattle.replies.specs.declared.status.Status.{Status}
use Rattle.bench_answers.specs.Running.{shift_reason, BenchReply}
use Rattle.micro_cli.specs.Checking.{refutation_limit}
use Rattle.micro_cli.specs.Flowing.{IsFlow}
use Rattle.micro_cli.specs.OverFiles.{GivesProgram, LacksProgram, GivesScript, LacksScriptOver, Images, LacksImageOver, AreFirst, LacksOne, HoldsWords}
use Rattle.micro_cli.specs.Replying.{LacksInputsOver, FlowOver, UnderScript, UnderLayout, RunOver, TellsOf, IsChecked, CheckOver}
use Rattle.micro_cli.proofs.OneParse.{AreOneReply, Parses, lacks_not_parses, lacks_once, value_once, refuses_once, asm_reason, script_reason, source_lacks, source_parses, script_lacks, script_parses, layout_lacks, layout_parses, image_lacks}

-- ---- sources and scripts

pub program_once : (files : List ℕ → Option (List ℕ)) (src : List ℕ) (g h : Graph) → GivesProgram files src g → GivesProgram files src h
    → g ≡ h
program_once files src g h one two =
    value_once files src source_limit source_of g h (source_parses files src g one) (source_parses files src h two)

pub lacks_program_once : (files : List ℕ → Option (List ℕ)) (src : List ℕ) (s t : Status) (text other : List ℕ)
    → LacksProgram files src s text → LacksProgram files src t other → AreOneReply s t text other
lacks_program_once files src s t text other one two =
    lacks_once files src source_limit source_of asm_reason s t text other (source_lacks files src s text one)
    (source_lacks files src t other two)

pub program_or_not : (files : List ℕ → Option (List ℕ)) (src : List ℕ) (g : Graph) (s : Status) (text : List ℕ)
    → LacksProgram files src s text → GivesProgram files src g → ⊥
program_or_not files src g s text lacks gives =
    lacks_not_parses files src source_limit source_of asm_reason g s text (source_lacks files src s text lacks)
    (source_parses files src g gives)

said_once : (files : List ℕ → Option (List ℕ)) (script : List ℕ) (slices : ℕ) (a b : BusScript) → GivesScript files script slices a
    → GivesScript files script slices b → a ≡ b
said_once files script slices a b one two =
    value_once files script script_limit (λ bytes. script_of slices bytes) a b (script_parses files script slices a one)
    (script_parses files script slices b two)

lacks_script_once : (files : List ℕ → Option (List ℕ)) (script : List ℕ) (slices : ℕ) (s t : Status) (text other : List ℕ)
    → LacksScriptOver files script slices s text → LacksScriptOver files script slices t other → AreOneReply s t text other
lacks_script_once files script slices s t text other one two =
    lacks_once files script script_limit (λ bytes. script_of slices bytes) script_reason s t text other
    (script_lacks files script slices s text one) (script_lacks files script slices t other two)

script_or_not : (files : List ℕ → Option (List ℕ)) (script : List ℕ) (slices : ℕ) (said : BusScript) (s : Status) (text : List ℕ)
    → LacksScriptOver files script slices s text → GivesScript files script slices said → ⊥
script_or_not files script slices said s text lacks gives =
    lacks_not_parses files script script_limit (λ bytes. script_of slices bytes) script_reason said s text
    (script_lacks files script slices s text lacks) (script_parses files script slices said gives)

-- ---- `flow`

flow_inputs_once : (files : List ℕ → Option (List ℕ)) (src script : List ℕ) (s t : Status) (text other : List ℕ)
    → LacksInputsOver files src script s text → LacksInputsOver files src script t other → AreOneReply s t text other
flow_inputs_once files src script s t text other (inl one) (inl two) = lacks_program_once files src s t text other one two
flow_inputs_once files src script s t text other (inl one) (inr (h, gives, two)) = absurd (program_or_not files src h s text one gives)
flow_inputs_once files src script s t text other (inr (g, gives, one)) (inl two) = absurd (program_or_not files src g t other two gives)
flow_inputs_once files src script s t text other (inr (g, gives, one)) (inr (h, gives_too, two)) =
    let same : g ≡ h = program_once files src g h gives gives_too in
    let P : Graph → Type 0 = λ x. LacksScriptOver files script x.decl.slices s text in
    lacks_script_once files script h.decl.slices s t text other (subst P same one) two

-- inputs are not both lacked and had
flow_inputs_or_not : (files : List ℕ → Option (List ℕ)) (src script : List ℕ) (g : Graph) (said : BusScript) (s : Status) (text : List ℕ)
    → LacksInputsOver files src script s text → GivesProgram files src g → GivesScript files script g.decl.slices said → ⊥
flow_inputs_or_not files src script g said s text (inl lacks) gives says = program_or_not files src g s text lacks gives
flow_inputs_or_not files src script g said s text (inr (h, gives_too, lacks)) gives says =
    let same : h ≡ g = program_once files src h g gives_too gives in
    let P : Graph → Type 0 = λ x. LacksScriptOver files script x.decl.slices s text in
    script_or_not files script g.decl.slices said s text (subst P same lacks) says

pub flow_once : (files : List ℕ → Option (List ℕ)) (src script : List ℕ) (clocks : ℕ) (s t : Status) (text other : List ℕ)
    → FlowOver files src script clocks s text → FlowOver files src script clocks t other → AreOneReply s t text other
flow_once files src script clocks s t text other (inl one) (inl two) = flow_inputs_once files src script s t text other one two
flow_once files src script clocks s t text other (inl one) (inr (h, said, gives, says, two)) =
    absurd (flow_inputs_or_not files src script h said s text one gives says)
flow_once files src script clocks s t text other (inr (g, said, gives, says, one)) (inl two) =
    absurd (flow_inputs_or_not files src script g said t other two gives says)
flow_once files src script clocks s t text other (inr (g, a, gives, says, one)) (inr (h, b, gives_too, says_too, two)) =
    let same : g ≡ h = program_once files src g h gives gives_too in
    let P : Graph → Type 0 = λ x. GivesScript files script x.decl.slices a in
    let Q : Graph → Type 0 = λ x. IsFlow x a clocks s text in
    let R : BusScript → Type 0 = λ x. IsFlow h x clocks s text in
    let said : a ≡ b = said_once files script h.decl.slices a b (subst P same says) says_too in
    let flows : IsFlow h b clocks s text = subst R said (subst Q same one) in
    (flows.status_is ∙ sym two.status_is, flows.text_is ∙ sym two.text_is)

-- ---- the images of `run`

image_once : (files : List ℕ → Option (List ℕ)) (name : List ℕ) (bits : ℕ) (x y : Image) → Images files name bits x
    → Images files name bits y → x ≡ y
image_once files name bits x y one two =
    let read : Parses files name image_limit (λ bytes. reading bits 512 bytes) (Ok x.words) =
    record { bytes = one.bytes; held = one.held; is = sym (only_reading bits 512 one.bytes (Ok x.words) one.shown.words) } in
    let read_too : Parses files name image_limit (λ bytes. reading bits 512 bytes) (Ok y.words) =
    record { bytes = two.bytes; held = two.held; is = sym (only_reading bits 512 two.bytes (Ok y.words) two.shown.words) } in
    ap₂ image_with (one.shown.bits_are ∙ sym two.shown.bits_are)
    (value_once files name image_limit (λ bytes. reading bits 512 bytes) x.words y.words read read_too)

image_or_not : (files : List ℕ → Option (List ℕ)) (name : List ℕ) (bits : ℕ) (x : Image) (s : Status) (text : List ℕ)
    → LacksImageOver files name bits s text → Images files name bits x → ⊥
image_or_not files name bits x s text lacks shows =
    lacks_not_parses files name image_limit (λ bytes. reading bits 512 bytes) bpnf_reason x.words s text
    (image_lacks files name bits s text lacks)
    (record { bytes = shows.bytes; held = shows.held; is = sym (only_reading bits 512 shows.bytes (Ok x.words) shows.shown.words) })

first_once : (files : List ℕ → Option (List ℕ)) (out : List ℕ) (bits count : ℕ) (xs ys : List Image) → AreFirst files out bits count xs
    → AreFirst files out bits count ys → xs ≡ ys
first_once files out bits count xs ys one two =
    same_images xs ys (one.all ∙ sym two.all) (λ k x y at_x at_y.
    image_once files (image_name out k) bits x y (one.each k x at_x) (two.each k y at_y))

-- an image is not both among the first and lacked
first_or_not : (files : List ℕ → Option (List ℕ)) (out : List ℕ) (bits count number : ℕ) (xs : List Image) (s : Status) (text : List ℕ)
    → number < count → AreFirst files out bits count xs → LacksImageOver files (image_name out number) bits s text → ⊥
first_or_not files out bits count number xs s text below first lacks =
    let at = element_at xs number (subst (λ (n : ℕ). number < n) (sym first.all) below) in
    image_or_not files (image_name out number) bits at.0 s text lacks (first.each number at.0 at.1)

lacks_one_once : (files : List ℕ → Option (List ℕ)) (out : List ℕ) (bits count : ℕ) (s t : Status) (text other : List ℕ)
    → LacksOne files out bits count s text → LacksOne files out bits count t other → AreOneReply s t text other
lacks_one_once files out bits count s t text other one two = go (cases_order one.number two.number)
  where
    go : (one.number ≡ two.number) ⊎ ((one.number < two.number) ⊎ (two.number < one.number)) → AreOneReply s t text other
    go (inl same) =
        let P : ℕ → Type 0 = λ n. LacksImageOver files (image_name out n) bits s text in
        lacks_once files (image_name out two.number) image_limit (λ bytes. reading bits 512 bytes) bpnf_reason s t text other
        (image_lacks files (image_name out two.number) bits s text (subst P same one.told))
        (image_lacks files (image_name out two.number) bits t other two.told)
    go (inr (inl less)) = absurd (first_or_not files out bits two.number one.number two.images s text less two.before one.told)
    go (inr (inr more)) = absurd (first_or_not files out bits one.number two.number one.images t other more one.before two.told)

joined_once : (decl : Declaration) (images : List Image) (ws vs : List ℕ) → AreJoined decl images ws → AreJoined decl images vs → ws ≡ vs
joined_once decl images ws vs one two =
    same_number_lists ws vs (one.words_fit.count ∙ sym two.words_fit.count) (λ address within.
    let below : address < 512 = omega (arith, one.words_fit.count) in
    same_from_bits_below (width_of decl) (get_or ws address 0) (get_or vs address 0)
    (All-get_or (λ word. word < 2 ^ width_of decl) ws address 0 within one.words_fit.fit)
    (All-get_or (λ word. word < 2 ^ width_of decl) vs address 0 (omega (arith, two.words_fit.count)) two.words_fit.fit)
    (λ bit lt. sym (one.shown address bit below lt) ∙ two.shown address bit below lt))

words_once : (files : List ℕ → Option (List ℕ)) (out : List ℕ) (decl : Declaration) (ws vs : List ℕ) → HoldsWords files out decl ws
    → HoldsWords files out decl vs → ws ≡ vs
words_once files out decl ws vs one two =
    let same : one.images ≡ two.images =
    first_once files out decl.prom_bits (image_count decl) one.images two.images one.first two.first in
    joined_once decl two.images ws vs (subst (λ (images : List Image). AreJoined decl images ws) same one.joined) two.joined

-- ---- what the bench replies

bad_shift_once : (words : List ℕ) (decl : Declaration) (a b : Position) → IsFirstBadShift words decl a → IsFirstBadShift words decl b
    → a ≡ b
bad_shift_once words decl a b one two = go (cases_order (address_of a) (address_of b))
  where
    go : (address_of a ≡ address_of b) ⊎ ((address_of a < address_of b) ⊎ (address_of b < address_of a)) → a ≡ b
    go (inl same) = same_cell a b one.in_matrix two.in_matrix same
    go (inr (inl less)) = absurd (one.masked.1 (two.first a one.in_matrix less one.masked.0))
    go (inr (inr more)) = absurd (two.masked.1 (one.first b two.in_matrix more two.masked.0))

bench_once : (out : List ℕ) (decl : Declaration) (words : List ℕ) (said : BusScript) (clocks : ℕ) (s t : Status) (text other : List ℕ)
    → BenchReply out decl words said clocks s text → BenchReply out decl words said clocks t other → AreOneReply s t text other
bench_once out decl words said clocks s t text other (inl one) (inl two) =
    let same : one.cell ≡ two.cell = bad_shift_once words decl one.cell two.cell one.first two.first in
    let P : Position → Type 0 = λ cell. Refuses out (shift_reason cell) s text in
    refuses_once out (shift_reason two.cell) s t text other (subst P same one.reply) two.reply
bench_once out decl words said clocks s t text other (inl one) (inr two) =
    absurd (one.first.masked.1 (two.no_bad_shift one.cell one.first.in_matrix one.first.masked.0))
bench_once out decl words said clocks s t text other (inr one) (inl two) =
    absurd (two.first.masked.1 (one.no_bad_shift two.cell two.first.in_matrix two.first.masked.0))
bench_once out decl words said clocks s t text other (inr one) (inr two) =
    (one.status_is ∙ sym two.status_is, one.text_is ∙ sym two.text_is)

-- ---- `run`

under_script_once : (scripts : List ℕ → Option (List ℕ)) (out script : List ℕ) (clocks : ℕ) (decl : Declaration) (words : List ℕ)
    (s t : Status) (text other : List ℕ)
    → UnderScript scripts out script clocks decl words s text → UnderScript scripts out script clocks decl words t other
    → AreOneReply s t text other
under_script_once scripts out script clocks decl words s t text other (inl one) (inl two) =
    lacks_script_once scripts script decl.slices s t text other one two
under_script_once scripts out script clocks decl words s t text other (inl one) (inr (said, says, two)) =
    absurd (script_or_not scripts script decl.slices said s text one says)
under_script_once scripts out script clocks decl words s t text other (inr (said, says, one)) (inl two) =
    absurd (script_or_not scripts script decl.slices said t other two says)
under_script_once scripts out script clocks decl words s t text other (inr (a, says, one)) (inr (b, says_too, two)) =
    let same : a ≡ b = said_once scripts script decl.slices a b says says_too in
    let P : BusScript → Type 0 = λ said. BenchReply out decl words said clocks s text in
    bench_once out decl words b clocks s t text other (subst P same one) two

under_layout_once : (files scripts : List ℕ → Option (List ℕ)) (out script : List ℕ) (clocks : ℕ) (decl : Declaration) (s t : Status)
    (text other : List ℕ)
    → UnderLayout files scripts out script clocks decl s text → UnderLayout files scripts out script clocks decl t other
    → AreOneReply s t text other
under_layout_once files scripts out script clocks decl s t text other (inl one) (inl two) =
    lacks_one_once files out decl.prom_bits (image_count decl) s t text other one two
under_layout_once files scripts out script clocks decl s t text other (inl one) (inr (words, holds, two)) =
    absurd (first_or_not files out decl.prom_bits (image_count decl) one.number holds.images s text one.below holds.first one.told)
under_layout_once files scripts out script clocks decl s t text other (inr (words, holds, one)) (inl two) =
    absurd (first_or_not files out decl.prom_bits (image_count decl) two.number holds.images t other two.below holds.first two.told)
under_layout_once files scripts out script clocks decl s t text other (inr (ws, holds, one)) (inr (vs, holds_too, two)) =
    let same : ws ≡ vs = words_once files out decl ws vs holds holds_too in
    let P : List ℕ → Type 0 = λ words. UnderScript scripts out script clocks decl words s text in
    under_script_once scripts out script clocks decl vs s t text other (subst P same one) two

pub run_once : (files scripts : List ℕ → Option (List ℕ)) (out script : List ℕ) (clocks : ℕ) (s t : Status) (text other : List ℕ)
    → RunOver files scripts out script clocks s text → RunOver files scripts out script clocks t other → AreOneReply s t text other
run_once files scripts out script clocks s t text other (inl one) (inl two) =
    lacks_once files (layout_name out) layout_limit layout_of asm_reason s t text other (layout_lacks files out s text one)
    (layout_lacks files out t other two)
run_once files scripts out script clocks s t text other (inl one) (inr (decl, declares, two)) =
    absurd (lacks_not_parses files (layout_name out) layout_limit layout_of asm_reason decl s text (layout_lacks files out s text one)
    (layout_parses files out decl declares))
run_once files scripts out script clocks s t text other (inr (decl, declares, one)) (inl two) =
    absurd (lacks_not_parses files (layout_name out) layout_limit layout_of asm_reason decl t other (layout_lacks files out t other two)
    (layout_parses files out decl declares))
run_once files scripts out script clocks s t text other (inr (a, declares, one)) (inr (b, declares_too, two)) =
    let same : a ≡ b =
    value_once files (layout_name out) layout_limit layout_of a b (layout_parses files out a declares)
    (layout_parses files out b declares_too) in
    let P : Declaration → Type 0 = λ decl. UnderLayout files scripts out script clocks decl s text in
    under_layout_once files scripts out script clocks b s t text other (subst P same one) two

-- ---- `check`

tells_once : (found : Option Checked) (name : List ℕ) (s t : Status) (text other : List ℕ) → TellsOf found name s text
    → TellsOf found name t other → AreOneReply s t text other
tells_once None name s t text other one two = refuses_once name (codes "TooLong") s t text other one two
tells_once (Some answer) name s t text other one two = (one.status_is ∙ sym two.status_is, one.text_is ∙ sym two.text_is)

checked_once : (file : Option (List ℕ)) (name : List ℕ) (g : Graph) (s t : Status) (text other : List ℕ) → IsChecked file name g s text
    → IsChecked file name g t other → AreOneReply s t text other
checked_once None name g s t text other one two = refuses_once name (codes "NoFile") s t text other one two
checked_once (Some bytes) name g s t text other one two =
    tells_once (check_file refutation_limit (list_of g) bytes) name s t text other one two

pub check_once : (files : List ℕ → Option (List ℕ)) (src refutation : List ℕ) (s t : Status) (text other : List ℕ)
    → CheckOver files src refutation s text → CheckOver files src refutation t other → AreOneReply s t text other
check_once files src refutation s t text other (inl one) (inl two) = lacks_program_once files src s t text other one two
check_once files src refutation s t text other (inl one) (inr (g, gives, two)) = absurd (program_or_not files src g s text one gives)
check_once files src refutation s t text other (inr (g, gives, one)) (inl two) = absurd (program_or_not files src g t other two gives)
check_once files src refutation s t text other (inr (g, gives, one)) (inr (h, gives_too, two)) =
    let same : g ≡ h = program_once files src g h gives gives_too in
    let P : Graph → Type 0 = λ x. IsChecked (files refutation) refutation x s text in
    checked_once (files refutation) refutation h s t text other (subst P same one) two
