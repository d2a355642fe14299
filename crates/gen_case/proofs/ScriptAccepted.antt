-- The script of a case is accepted, as what the case gives in each clock.
use Rattle.std.proofs.Common.{◌≡◌, ℕ, zero, suc, ◌+◌, ◌<◌, ◌≤◌, List, [], ◌∷◌, ◌++◌, Result, Ok, refl, sym, ap, subst, ◌∙◌, append_assoc, arith, lit<}
use Rattle.std.specs.Prelude.{codes, map}
use Rattle.std.specs.List.{range_with_len}
use Rattle.std.proofs.lemmas.Bool.{le-ltb, lt-leb}
use Rattle.std.proofs.lemmas.List.{append-nil}
use Rattle.field_decl.specs.LineByLine.{lines_taken}
use Rattle.field_decl.specs.Results.{◌>>=◌, in_line}
use Rattle.field_decl.specs.declared.word.Word.{Word}
use Rattle.bus_script.specs.declared.buses.Buses.{Buses}
use Rattle.bus_script.specs.declared.fault.ScriptKind.{ScriptKind}
use Rattle.bus_script.specs.Script.{Said, Clock, BusScript, script_by, keyword_line, words_said, line_said, script_of}
use Rattle.bus_script.specs.ScriptSteps.{with_said, after_lines}
use Rattle.bus_script.specs.Settings.{settings_refusal}
use Rattle.bus_script.proofs.ScriptLaw.{script_is}
use Rattle.text_pieces.specs.Pieces.{pieces_text, words_in, AreReadable}
use Rattle.text_pieces.specs.PieceLines.{AreReadableLines}
use Rattle.text_pieces.proofs.PieceTexts.{script_words, text_lines}
use Rattle.gen_case.specs.CaseScript.{buses_with, said_from}
use Rattle.gen_case.specs.Draws.{state_after}
use Rattle.gen_case.specs.ScriptText.{clocks, word_at, clock_line, script_from}
use Rattle.gen_case.proofs.CaseNames.{tested_name}
use Rattle.gen_case.proofs.DrawLemmas.{drawn_below}
use Rattle.gen_case.proofs.TextLemmas.{clocks_are}

-- ---- one line

-- a word on the bus has 16 bits
pub word_fits : (state clock : ℕ) → word_at state clock < 65536
word_fits state clock = drawn_below (state_after state (suc clock)) 65536 (lit< tt)

-- a clock's line can be read
pub clock_readable : (word : ℕ) → word < 65536 → AreReadable (clock_line word)
clock_readable word fits =
    (tested_name (codes "clk") refl refl refl refl, refl, (tested_name (codes "i") refl refl refl refl, refl, (omega arith, refl, tt)))

-- and gives the word
clock_said : (memory : List (ℕ × ℕ)) (word : ℕ) → word < 65536
    → words_said 8 memory (words_in (clock_line word)) ≡ Ok (Clock (buses_with word))
unfolding keyword_line settings_refusal
clock_said memory word fits = rw (lt-leb 65536 word fits) refl

-- the line adds a clock
clock_adds : (before : List Buses) (number word : ℕ) (rest : List (List ℕ)) → number ≤ 65536 → word < 65536
    → after_lines 8 (record { memory = []; clocks = before }) number (pieces_text (clock_line word) ∷ rest)
    ≡ after_lines 8 (record { memory = []; clocks = before ++ buses_with word ∷ [] }) (number + 1) rest
unfolding lines_taken line_said
clock_adds before number word rest few fits =
    let script : BusScript = record { memory = []; clocks = before } in
    let said : line_said 8 number [] (pieces_text (clock_line word)) ≡ Ok (Clock (buses_with word)) =
    rw (le-ltb 65536 number few)
    (ap (λ (r : Result (List Word) ScriptKind). r >>= words_said 8 []) (script_words (clock_line word) (clock_readable word fits))
    ∙ clock_said [] word fits) in
    ap (λ (r : Result Said ScriptKind). in_line number (with_said script r) >>= λ more. after_lines 8 more (number + 1) rest) said

-- ---- all lines

-- a line for each of some clocks
clocks_taken : (words : ℕ → ℕ) (before : List Buses) (number first count : ℕ) → ((clock : ℕ) → words clock < 65536)
    → number + count ≤ 65537
    → after_lines 8 (record { memory = []; clocks = before }) number
    (map pieces_text (map (λ clock. clock_line (words clock)) (range_with_len first count)))
    ≡ Ok (record { memory = []; clocks = before ++ map (λ clock. buses_with (words clock)) (range_with_len first count) })
unfolding lines_taken
clocks_taken words before number first zero fits few =
    ap (λ (cs : List Buses). Ok (record { memory = []; clocks = cs })) (sym (append-nil before))
clocks_taken words before number first (suc count) fits few =
    clock_adds before number (words first) (map pieces_text (map (λ clock. clock_line (words clock)) (range_with_len (first + 1) count)))
    (omega arith) (fits first)
    ∙ clocks_taken words (before ++ buses_with (words first) ∷ []) (number + 1) (first + 1) count fits (omega arith)
    ∙ ap (λ (cs : List Buses). Ok (record { memory = []; clocks = cs }))
    (append_assoc before (buses_with (words first) ∷ []) (map (λ clock. buses_with (words clock)) (range_with_len (first + 1) count)))

-- each of some clocks' lines can be read
clocks_readable : (words : ℕ → ℕ) (ks : List ℕ) → ((clock : ℕ) → words clock < 65536)
    → AreReadableLines (map (λ clock. clock_line (words clock)) ks)
clocks_readable words [] fits = tt
clocks_readable words (k ∷ ks) fits = (clock_readable (words k) (fits k), clocks_readable words ks fits)

-- all clocks
all_taken : (n state : ℕ) → n ≡ 64
    → after_lines 8 (script_by []) 1 (map pieces_text (map (λ clock. clock_line (word_at state clock)) clocks)) ≡ Ok
    (record { memory = []; clocks = map (λ clock. buses_with (word_at state clock)) clocks })
all_taken n state all =
    let P : List ℕ → Type 0 =
    λ ks. after_lines 8 (script_by []) 1 (map pieces_text (map (λ clock. clock_line (word_at state clock)) ks)) ≡ Ok
    (record { memory = []; clocks = map (λ clock. buses_with (word_at state clock)) ks }) in
    subst P (clocks_are n all) (clocks_taken (word_at state) [] 1 0 n (word_fits state) (omega arith))

-- the script of a case means what is drawn for it
pub script_accepted : (state : ℕ) → script_of 8 (script_from state) ≡ Ok (said_from state)
unfolding script_from said_from
script_accepted state =
    script_is 8 (script_from state)
    ∙ ap (after_lines 8 (script_by []) 1)
    (text_lines (map (λ clock. clock_line (word_at state clock)) clocks) (clocks_readable (word_at state) clocks (word_fits state)))
    ∙ all_taken 64 state refl
