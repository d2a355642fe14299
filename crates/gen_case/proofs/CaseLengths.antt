-- The texts of a case are within the limits of the files that hold them.
use Rattle.std.proofs.Common.{◌≡◌, ℕ, ◌*◌, ◌≤◌, ◌<◌, List, [], ◌∷◌, ◌++◌, length, Option, Some, None, refl, sym, ap, ◌∙◌, arith}
use Rattle.std.specs.Prelude.{map}
use Rattle.std.specs.List.{AllByRecursion}
use Rattle.std.proofs.lemmas.List.{length-append, length-map}
use Rattle.std.proofs.lemmas.List.FromFn.{length-range_with_len}
use Rattle.text_pieces.specs.Pieces.{Piece}
use Rattle.text_pieces.proofs.PieceLengths.{IsShortLine, lines_short}
use Rattle.gen_case.specs.declared.choices.Choice.{Choice}
use Rattle.gen_case.specs.declared.choices.Flow.{Flow}
use Rattle.gen_case.specs.declared.choices.Flow.TheVariants.{SameRow, SameColumn, OnFlag}
use Rattle.gen_case.specs.Choices.{choice_of}
use Rattle.gen_case.specs.Labels.{labels, pinned_labels, targets_of}
use Rattle.gen_case.specs.ScriptText.{clocks, word_at, clock_line, script_from}
use Rattle.gen_case.specs.SourceText.{header_lines, pin_line, flag_of, flag_pieces, target_pieces, flow_pieces, instruction_line, case_line, source_lines, source_text}
use Rattle.gen_case.proofs.CaseLists.{IsLabel, append_all, map_all, all_labels, all_pinned, labels_count, pinned_count}
use Rattle.gen_case.proofs.LineForms.{pin_readable, instruction_readable}
use Rattle.gen_case.proofs.ScriptAccepted.{clock_readable, word_fits}
use Rattle.gen_case.proofs.SourceAccepted.{choice_in_range, header_readable}
use Rattle.gen_case.proofs.TextLemmas.{clocks_are, script_is}

-- ---- the pieces of an instruction

-- two pieces for each target
target_count : (targets : List ℕ) → length (target_pieces targets) ≡ 2 * length targets
target_count [] = refl
target_count (target ∷ targets) = let more = target_count targets in omega (arith, more)

-- at most two targets
few_targets : (label : ℕ) (flow : Flow) → length (targets_of label flow) ≤ 2
few_targets label (SameRow col) = omega arith
few_targets label (SameColumn row) = omega arith
few_targets label (OnFlag row) = omega arith

-- at most two pieces for a flag function
flag_count : (flag : Option (List ℕ)) → length (flag_pieces flag) ≤ 2
flag_count None = omega arith
flag_count (Some flag) = omega arith

-- at most 20 pieces
few_pieces : (label : ℕ) (choice : Choice) → length (instruction_line label choice) ≤ 20
few_pieces label choice =
    let flag : List Piece = flag_pieces (flag_of choice.operation) in
    let flow : List Piece = flow_pieces choice.value label choice.flow in
    omega (
      arith,
      length-append flag flow,
      flag_count (flag_of choice.operation),
      target_count (targets_of label choice.flow),
      few_targets label choice.flow,
    )

-- ---- the source

-- each line has at most 20 pieces
lines_few : (number : ℕ) → AllByRecursion (IsShortLine 20) (source_lines number)
lines_few number =
    let header = header_readable in
    append_all (IsShortLine 20) header_lines (map pin_line pinned_labels ++ map (case_line number) labels) (
      record { few = omega arith; readable = header.0 },
      (
        record { few = omega arith; readable = header.1.0 },
        (record { few = omega arith; readable = header.1.1.0 }, (record { few = omega arith; readable = header.1.1.1.0 }, tt)),
      ),
    )
    (append_all (IsShortLine 20) (map pin_line pinned_labels) (map (case_line number) labels)
    (map_all IsLabel (IsShortLine 20) pin_line pinned_labels
    (λ label small. record { few = omega arith; readable = pin_readable label small }) all_pinned)
    (map_all IsLabel (IsShortLine 20) (case_line number) labels
    (λ label small. record {
      few = few_pieces label (choice_of number label);
      readable = instruction_readable label (choice_of number label) small (choice_in_range number label);
    }) all_labels))

-- there are 244 lines
line_count : (number : ℕ) → length (source_lines number) ≡ 244
line_count number =
    omega (
      arith,
      length-append (map pin_line pinned_labels) (map (case_line number) labels),
      length-map pinned_labels pin_line,
      length-map labels (case_line number),
      pinned_count,
      labels_count,
    )

-- the source is short enough for a source's file
pub source_short : (number : ℕ) → length (source_text number) ≤ 1048576
unfolding source_text
source_short number = omega (arith, lines_short 20 (source_lines number) (lines_few number), line_count number)

-- ---- the script

-- each line has 5 pieces
clocks_few : (words : ℕ → ℕ) (ks : List ℕ) → ((clock : ℕ) → words clock < 65536)
    → AllByRecursion (IsShortLine 5) (map (λ clock. clock_line (words clock)) ks)
clocks_few words [] fits = tt
clocks_few words (k ∷ ks) fits = (record { few = omega arith; readable = clock_readable (words k) (fits k) }, clocks_few words ks fits)

-- there are 64 clocks
clock_count : (n : ℕ) → n ≡ 64 → length clocks ≡ 64
clock_count n e = ap length (sym (clocks_are n e)) ∙ length-range_with_len 0 n ∙ e

-- the script is short enough for a script's file
pub script_short : (state : ℕ) → length (script_from state) ≤ 4194304
script_short state =
    let all : List (List Piece) = map (λ clock. clock_line (word_at state clock)) clocks in
    omega (
      arith,
      ap length (script_is state),
      lines_short 5 all (clocks_few (word_at state) clocks (word_fits state)),
      length-map clocks (λ clock. clock_line (word_at state clock)),
      clock_count 64 refl,
    )
