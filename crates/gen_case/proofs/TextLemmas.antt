-- Texts of lines that grow by a line.
use Rattle.std.proofs.Common.{◌≡◌, ℕ, ◌+◌, ◌%◌, ◌≢◌, true, false, not, List, [], ◌∷◌, ◌++◌, Result, Ok, Err, is_ok, cond, refl, sym, ap, ◌∙◌, append_assoc, arith, eq-eqb, lit<}
use Rattle.std.specs.Prelude.{map, codes, decimal, OnOk}
use Rattle.std.specs.List.{range_with_len, filter}
use Rattle.std.proofs.lemmas.Bool.{ne_eqb}
use Rattle.std.proofs.lemmas.List.{append-nil, map-append}
use Rattle.std.proofs.lemmas.List.Elements.{filter-append}
use Rattle.std.proofs.lemmas.List.FromFn.{map-range_with_len_more}
use Rattle.std.proofs.lemmas.Fmt.{decimal_digit}
use Rattle.text_pieces.specs.Pieces.{Piece, piece_text, pieces_text}
use Rattle.text_pieces.specs.PieceLines.{line_text, lines_text}
use Rattle.gen_case.specs.declared.choices.Choice.{Choice}
use Rattle.gen_case.specs.Labels.{labels_below, labels, is_pinned, pinned_labels, label_name, targets_of}
use Rattle.gen_case.specs.ScriptText.{clocks, word_at, clock_line, script_from}
use Rattle.gen_case.specs.SourceText.{header_lines, pin_line, mnemonic_of, operand_of, flag_of, statement_of, flag_pieces, target_pieces, flow_pieces, instruction_line, case_line, source_text}

-- the text of lines after lines
pub lines_append : (xs ys : List (List Piece)) → lines_text (xs ++ ys) ≡ lines_text xs ++ lines_text ys
lines_append [] ys = refl
lines_append (x ∷ xs) ys = ap (λ (text : List ℕ). line_text x ++ text) (lines_append xs ys)
    ∙ sym (append_assoc (line_text x) (lines_text xs) (lines_text ys))

-- the text of lines and one line more
pub lines_push : (lines : List (List Piece)) (line : List Piece) → lines_text (lines ++ line ∷ []) ≡ lines_text lines ++ line_text line
lines_push lines line = lines_append lines (line ∷ []) ∙ ap (λ (text : List ℕ). lines_text lines ++ text) (append-nil (line_text line))

-- the numbers below one more
pub range_push : (n : ℕ) → range_with_len 0 (n + 1) ≡ range_with_len 0 n ++ n ∷ []
range_push n = sym (map_same (range_with_len 0 (n + 1))) ∙ map-range_with_len_more (λ (k : ℕ). k) 0 n n (omega arith)
    ∙ ap (λ (xs : List ℕ). xs ++ n ∷ []) (map_same (range_with_len 0 n))
  where
    map_same : (xs : List ℕ) → map (λ k. k) xs ≡ xs
    map_same [] = refl
    map_same (x ∷ xs) = ap (λ (rest : List ℕ). x ∷ rest) (map_same xs)

-- a line for each number below one more
pub each_push : (f : ℕ → List Piece) (before : List ℕ) (n : ℕ) (text : List ℕ) → text ≡ before ++ lines_text (map f (range_with_len 0 n))
    → text ++ line_text (f n) ≡ before ++ lines_text (map f (range_with_len 0 (n + 1)))
each_push f before n text is =
    ap (λ (xs : List ℕ). xs ++ line_text (f n)) is ∙ append_assoc before (lines_text (map f (range_with_len 0 n))) (line_text (f n))
    ∙ ap (λ (xs : List ℕ). before ++ xs)
    (sym (lines_push (map f (range_with_len 0 n)) (f n)) ∙ ap lines_text (sym (map-range_with_len_more f 0 n n (omega arith))))

-- the pinned labels below one more, which is pinned
pinned_push : (n : ℕ) → is_pinned n ≡ true → filter is_pinned (labels_below (n + 1)) ≡ filter is_pinned (labels_below n) ++ n ∷ []
pinned_push n h = ap (filter is_pinned) (range_push n) ∙ filter-append is_pinned (range_with_len 0 n) (n ∷ []) ∙ rw h refl

-- and which is not
unpinned_push : (n : ℕ) → is_pinned n ≡ false → filter is_pinned (labels_below (n + 1)) ≡ filter is_pinned (labels_below n)
unpinned_push n h = ap (filter is_pinned) (range_push n) ∙ filter-append is_pinned (range_with_len 0 n) (n ∷ [])
    ∙ rw h (append-nil (filter is_pinned (labels_below n)))

-- a line more for a pinned label
pub pin_written : (f : ℕ → List Piece) (before : List ℕ) (n : ℕ) (text : List ℕ) → (n % 8 ≢ 7)
    → text ≡ before ++ lines_text (map f (filter is_pinned (labels_below n)))
    → text ++ line_text (f n) ≡ before ++ lines_text (map f (filter is_pinned (labels_below (n + 1))))
pin_written f before n text other is =
    let pinned : is_pinned n ≡ true = ap not (ne_eqb (n % 8) 7 other) in
    ap (λ (xs : List ℕ). xs ++ line_text (f n)) is
    ∙ append_assoc before (lines_text (map f (filter is_pinned (labels_below n)))) (line_text (f n))
    ∙ ap (λ (xs : List ℕ). before ++ xs) (sym (lines_push (map f (filter is_pinned (labels_below n))) (f n))
    ∙ ap lines_text (sym (map-append f (filter is_pinned (labels_below n)) (n ∷ [])) ∙ ap (map f) (sym (pinned_push n pinned))))

-- none for another label
pub pin_left_out : (f : ℕ → List Piece) (before : List ℕ) (n : ℕ) (text : List ℕ) → n % 8 ≡ 7
    → text ≡ before ++ lines_text (map f (filter is_pinned (labels_below n)))
    → text ≡ before ++ lines_text (map f (filter is_pinned (labels_below (n + 1))))
pin_left_out f before n text seventh is =
    let unpinned : is_pinned n ≡ false = ap not (eq-eqb (n % 8) 7 seventh) in
    is ∙ ap (λ (xs : List ℕ). before ++ lines_text (map f xs)) (sym (unpinned_push n unpinned))

-- ---- all labels and clocks

-- the labels below 128 are all
pub labels_are : (n : ℕ) → n ≡ 128 → labels_below n ≡ labels
unfolding labels
labels_are n e = ap labels_below e

-- and the pinned of them are all that are pinned
pub pinned_are : (n : ℕ) → n ≡ 128 → filter is_pinned (labels_below n) ≡ pinned_labels
unfolding pinned_labels
pinned_are n e = ap (filter is_pinned) (labels_are n e)

-- the clocks below 64 are all
pub clocks_are : (n : ℕ) → n ≡ 64 → range_with_len 0 n ≡ clocks
unfolding clocks
clocks_are n e = ap (range_with_len 0) e

-- the script's text by its lines
pub script_is : (state : ℕ) → script_from state ≡ lines_text (map (λ clock. clock_line (word_at state clock)) clocks)
unfolding script_from
script_is state = refl

-- the source's text by its parts
pub source_is : (number : ℕ)
    → source_text number ≡ lines_text header_lines
    ++ (lines_text (map pin_line pinned_labels) ++ lines_text (map (case_line number) labels))
unfolding source_text
source_is number =
    lines_append header_lines (map pin_line pinned_labels ++ map (case_line number) labels)
    ∙ ap (λ (text : List ℕ). lines_text header_lines ++ text) (lines_append (map pin_line pinned_labels) (map (case_line number) labels))

-- three texts one after the other
pub joined : (start one two three a b c : List ℕ)
    → start ≡ [] → one ≡ start ++ a → two ≡ one ++ b → three ≡ two ++ c → three ≡ a ++ (b ++ c)
joined start one two three a b c none first second third =
    third ∙ ap (λ (t : List ℕ). t ++ c) (second ∙ ap (λ (t : List ℕ). t ++ b) (first ∙ ap (λ (t : List ℕ). t ++ a) none))
    ∙ append_assoc a b c

-- ---- the literal texts

-- the declarations as they are written
pub header_is : codes "slices 8\nkbus 2\nfield u 4 0\nstart L0\n" ≡ lines_text header_lines
header_is = rw (decimal_digit 8 (lit< tt), decimal_digit 2 (lit< tt), decimal_digit 4 (lit< tt), decimal_digit 0 (lit< tt)) refl

-- a text that grew by some bytes grew by the same bytes
pub grown_by : {V X E : Type 0} (items : V → List ℕ) (old : List ℕ) {a b : List ℕ} → a ≡ b → (r : Result X E) (new : V)
    → items new ≡ cond (is_ok r) (old ++ a) old → OnOk r (items new ≡ old ++ b)
grown_by items old same (Ok x) new h = h ∙ ap (λ (t : List ℕ). old ++ t) same
grown_by items old same (Err e) new h = tt

-- the bytes of pieces after pieces
pub pieces_append : (xs ys : List Piece) → pieces_text (xs ++ ys) ≡ pieces_text xs ++ pieces_text ys
pieces_append [] ys = refl
pieces_append (x ∷ xs) ys = ap (λ (text : List ℕ). piece_text x ++ text) (pieces_append xs ys)
    ∙ sym (append_assoc (piece_text x) (pieces_text xs) (pieces_text ys))

-- an instruction's parts one after the other
parts_in_line : (old label mnemonic operand flag number flow : List ℕ)
    → ((((((((((old ++ label) ++ 58 ∷ 32 ∷ []) ++ mnemonic) ++ 32 ∷ []) ++ operand) ++ flag) ++ 32 ∷ 117 ∷ 61 ∷ []) ++ number)
    ++ 32 ∷ 124 ∷ 32 ∷ []) ++ flow) ++ 10 ∷ []
    ≡ old ++ ((label ++ 58 ∷ 32 ∷ (mnemonic ++ 32 ∷ (operand ++ (flag ++ 32 ∷ 117 ∷ 61 ∷ (number ++ 32 ∷ 124 ∷ 32 ∷ flow))))) ++ 10 ∷ [])
parts_in_line old label mnemonic operand flag number flow = simp append_assoc

-- an instruction as it is written, piece by piece
pub instruction_text : (old : List ℕ) (label : ℕ) (choice : Choice)
    → ((((((((((old ++ label_name label) ++ 58 ∷ 32 ∷ []) ++ mnemonic_of choice.operation) ++ 32 ∷ [])
    ++ operand_of choice.operation choice.register)
    ++ pieces_text (flag_pieces (flag_of choice.operation))) ++ 32 ∷ 117 ∷ 61 ∷ []) ++ decimal choice.value) ++ 32 ∷ 124 ∷ 32 ∷ [])
    ++ (statement_of choice.flow ++ pieces_text (target_pieces (targets_of label choice.flow)))) ++ 10 ∷ []
    ≡ old ++ line_text (instruction_line label choice)
instruction_text old label choice =
    let name : List ℕ = label_name label in
    let mnemonic : List ℕ = mnemonic_of choice.operation in
    let operand : List ℕ = operand_of choice.operation choice.register in
    let flag : List Piece = flag_pieces (flag_of choice.operation) in
    let flow : List Piece = flow_pieces choice.value label choice.flow in
    parts_in_line old name mnemonic operand (pieces_text flag) (decimal choice.value)
    (statement_of choice.flow ++ pieces_text (target_pieces (targets_of label choice.flow)))
    ∙ ap (λ (t : List ℕ). old ++ ((name ++ 58 ∷ 32 ∷ (mnemonic ++ 32 ∷ (operand ++ t))) ++ 10 ∷ [])) (sym (pieces_append flag flow))
