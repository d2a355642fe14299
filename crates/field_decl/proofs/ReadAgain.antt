-- The printed layout of a declaration is read as that declaration.
use Rattle.std.proofs.Common.{◌≡◌, ℕ, zero, suc, ◌+◌, ◌*◌, ◌%◌, ◌^◌, ◌≤◌, ◌<◌, true, false, ◌&&◌, ◌||◌, List, [], ◌∷◌, ◌++◌, length, Option, Some, None, Result, Ok, Err, refl, sym, ap, subst, ◌∙◌, append_assoc, arith, eqb, eq-eqb, ltb}
use Rattle.std.specs.Prelude.{codes, map, All, slice_get, nat_lt, nat_le, option_and_then, unwrap_or, IfOk}
use Rattle.std.specs.List.{list_all, list_any}
use Rattle.std.proofs.Math.Nat.{pow-le-pow_right}
use Rattle.std.proofs.lemmas.Bool.{and_parts, leb-true, ltb-true, le-ltb, lt-leb, ne_eqb}
use Rattle.std.proofs.lemmas.List.{append-nil}
use Rattle.std.proofs.lemmas.List.Sums.{sum_by-cons}
use Rattle.micro_lex.specs.declared.token.TokenKind.TheVariants as tokens
use Rattle.micro_lex.specs.Lines.{lines}
use Rattle.micro_lex.specs.Names.{IsName}
use Rattle.micro_lex.specs.Runs.{run_kind}
use Rattle.field_decl.specs.declared.directive.Directive.{Directive}
use Rattle.field_decl.specs.declared.directive.Directive.TheVariants as directives
use Rattle.field_decl.specs.declared.fault.AsmKind.{AsmKind}
use Rattle.field_decl.specs.declared.field.Field.{Field}
use Rattle.field_decl.specs.declared.word.Word.{Word}
use Rattle.field_decl.specs.Declaration.{Declaration}
use Rattle.field_decl.specs.Directives.{directive_form}
use Rattle.field_decl.specs.Earlier.{Declared, declared_by, with_directive, FitsTogether}
use Rattle.field_decl.specs.Fields.{has_field, is_sized, are_distinct, widths, word_bits, can_write, write_place, is_one_bit, is_write}
use Rattle.field_decl.specs.Judging.{refusal}
use Rattle.field_decl.specs.Layout.{line_form, layout_of}
use Rattle.field_decl.specs.LayoutSteps.{line_judged, after_line, after_lines}
use Rattle.field_decl.specs.LayoutText.{printed, slices_runs, kbus_runs, field_runs, prom_runs, write_runs, fields_text, write_line, write_text, layout_text}
use Rattle.field_decl.specs.LineByLine.{lines_taken}
use Rattle.field_decl.specs.Results.{◌>>=◌, unless_refused, in_line}
use Rattle.field_decl.specs.Spaced.{Run, IsRun, AreRuns, spaced}
use Rattle.field_decl.specs.Words.{word_of, words_from, words_of}
use Rattle.field_decl.proofs.FieldLemmas.{distinct_before, place_found, can_be_written, widths_push}
use Rattle.field_decl.proofs.LayoutLaw.{completed_in}
use Rattle.field_decl.proofs.SpacedRuns.{gives_tokens, each_read, first_line, number_is_run, name_is_run}

abbrev ok_words : List Word → Result (List Word) AsmKind
ok_words words = Ok words

-- the words of a printed line
words_of_runs : (runs : List Run) → AreRuns runs → words_of (spaced runs) ≡ Ok (map (λ run. word_of run.1 run.0) runs)
unfolding words_of
words_of_runs runs all = ap (words_from (spaced runs)) (gives_tokens runs all)
    ∙ ap ok_words (each_read word_of (spaced runs) [] 0 runs refl refl)

-- a printed line of a directive that is not refused adds it
line_taken : (declared : Declared) (number : ℕ) (runs : List Run) (directive : Directive) (rest : List ℕ) → AreRuns runs
    → line_form (map (λ run. word_of run.1 run.0) runs) ≡ Ok (Some directive) → refusal declared directive ≡ None
    → after_lines declared number (lines (printed runs ++ rest)) ≡ after_lines (with_directive declared directive) (number + 1)
    (lines rest)
unfolding lines_taken after_line
line_taken declared number runs directive rest all form accepted =
    let judged : after_line declared (spaced runs) ≡ Ok (with_directive declared directive) =
    ap (λ (r : Result (List Word) AsmKind). r >>= line_form >>= line_judged declared) (words_of_runs runs all)
    ∙ ap (λ (r : Result (Option Directive) AsmKind). r >>= line_judged declared) form
    ∙ ap (λ (why : Option AsmKind). unless_refused why (with_directive declared directive)) accepted in
    ap (after_lines declared number) (first_line runs rest all)
    ∙ ap (λ (r : Result Declared AsmKind). in_line number r >>= λ more. after_lines more (number + 1) (lines rest)) judged

-- ---- the words of the lines

-- each directive's name is read as a name
slices_word : IsRun (codes "slices", tokens.Name)
unfolding run_kind
slices_word = record { some = omega arith; plain = refl; reads = refl }

kbus_word : IsRun (codes "kbus", tokens.Name)
unfolding run_kind
kbus_word = record { some = omega arith; plain = refl; reads = refl }

field_word : IsRun (codes "field", tokens.Name)
unfolding run_kind
field_word = record { some = omega arith; plain = refl; reads = refl }

prom_word : IsRun (codes "prom", tokens.Name)
unfolding run_kind
prom_word = record { some = omega arith; plain = refl; reads = refl }

write_word : IsRun (codes "write", tokens.Name)
unfolding run_kind
write_word = record { some = omega arith; plain = refl; reads = refl }

-- ---- the lines one after the other

-- what is declared once the slices and the K bus are
abbrev with_bus : ℕ → ℕ → List Field → Declared
with_bus slices kbus fields = record { slices = Some slices; kbus = Some kbus; fields = fields; prom = None; write = None }

-- the slices line
slices_taken : (slices : ℕ) (rest : List ℕ) → 1 ≤ slices → slices ≤ 16
    → after_lines (declared_by []) 1 (lines (printed (slices_runs slices) ++ rest)) ≡ after_lines
    (record { slices = Some slices; kbus = None; fields = []; prom = None; write = None }) 2 (lines rest)
unfolding refusal directive_form
slices_taken slices rest least most =
    line_taken (declared_by []) 1 (slices_runs slices) (directives.Slices slices) rest
    (slices_word, (number_is_run slices (omega arith), tt)) refl
    (rw (le-ltb slices 1 least, le-ltb 16 slices most) refl)

-- the K bus line
kbus_taken : (slices kbus : ℕ) (rest : List ℕ) → slices ≤ 16 → 0 < kbus → 2 * slices % kbus ≡ 0 → 18 + kbus ≤ 96
    → after_lines (record { slices = Some slices; kbus = None; fields = []; prom = None; write = None }) 2
    (lines (printed (kbus_runs kbus) ++ rest)) ≡ after_lines (with_bus slices kbus []) 3 (lines rest)
unfolding refusal directive_form
kbus_taken slices kbus rest most some shares narrow =
    line_taken (record { slices = Some slices; kbus = None; fields = []; prom = None; write = None }) 2 (kbus_runs kbus)
    (directives.KBus kbus) rest (kbus_word, (number_is_run kbus (omega arith), tt)) refl
    (rw (
      ne_eqb kbus 0 (λ none. absurd (omega (arith, none, some))),
      eq-eqb (2 * slices % kbus) 0 shares,
      le-ltb 96 (18 + kbus + 0) (omega arith),
    ) refl)

-- a field that passes all tests
field_accepted : (declared : Declared) (name : List ℕ) (width default : ℕ) → has_field declared.fields name ≡ false → ltb width 1 ≡ false
    → ltb 32 width ≡ false → nat_le (2 ^ width) default ≡ false
    → ltb 96 (word_bits (unwrap_or declared.kbus 1) declared.fields + width) ≡ false
    → refusal declared (directives.Field name width default) ≡ None
unfolding refusal
field_accepted declared name width default new wide narrow fits word = rw (new, wide, narrow, fits, word) refl

-- what the tests say of a field
pub record Sized (field : Field) : Type 0 where
  pub least : 1 ≤ field.width
  pub most : field.width ≤ 32
  pub fits : field.default < 2 ^ field.width

-- a field that passes them
pub sizes_of : (field : Field) → is_sized field ≡ true → Sized field
sizes_of field h =
    let parts = and_parts (nat_le 1 field.width && nat_le field.width 32) (nat_lt field.default (2 ^ field.width)) h in
    let wide = and_parts (nat_le 1 field.width) (nat_le field.width 32) parts.0 in
    record {
      least = leb-true 1 field.width wide.0;
      most = leb-true field.width 32 wide.1;
      fits = ltb-true field.default (2 ^ field.width) parts.1;
    }

-- a default can be printed
small_default : (field : Field) → Sized field → field.default < 2 ^ 128
small_default field s =
    let power : 2 ^ field.width ≤ 2 ^ 32 = pow-le-pow_right (omega arith) s.most in
    omega (arith, s.fits, power)

-- a field line
field_taken : (slices kbus number : ℕ) (before : List Field) (field : Field) (rest : List ℕ) → IsName field.name → Sized field
    → has_field before field.name ≡ false → word_bits kbus before + field.width ≤ 96
    → after_lines (with_bus slices kbus before) number (lines (printed (field_runs field) ++ rest)) ≡ after_lines
    (with_bus slices kbus (before ++ field ∷ [])) (number + 1) (lines rest)
unfolding directive_form
field_taken slices kbus number before field rest name s new narrow =
    line_taken (with_bus slices kbus before) number (field_runs field) (directives.Field field.name field.width field.default) rest (
      field_word,
      (
        name_is_run field.name name,
        (number_is_run field.width (omega (arith, s.most)), (number_is_run field.default (small_default field s), tt)),
      ),
    ) refl
    (field_accepted (with_bus slices kbus before) field.name field.width field.default new (le-ltb field.width 1 s.least)
    (le-ltb 32 field.width s.most) (lt-leb (2 ^ field.width) field.default s.fits)
    (le-ltb 96 (word_bits kbus before + field.width) narrow))

-- the first name
first_of_all : (field : Field) (fields : List Field) → All (λ f. IsName f.name) (field ∷ fields) → IsName field.name
first_of_all field fields all = all 0 field (omega arith)

-- the other names
rest_of_all : (field : Field) (fields : List Field) → All (λ f. IsName f.name) (field ∷ fields) → All (λ f. IsName f.name) fields
rest_of_all field fields all = λ k d lt. all (suc k) d (omega arith)

-- the field lines
fields_taken : (slices kbus number : ℕ) (before fields : List Field) (rest : List ℕ) → All (λ f. IsName f.name) fields
    → list_all is_sized fields ≡ true → are_distinct (before ++ fields) ≡ true → word_bits kbus before + widths fields ≤ 96
    → after_lines (with_bus slices kbus before) number (lines (fields_text fields ++ rest)) ≡ after_lines
    (with_bus slices kbus (before ++ fields)) (number + length fields) (lines rest)
fields_taken slices kbus number before [] rest named sized distinct narrow =
    ap (λ (fields : List Field). after_lines (with_bus slices kbus fields) number (lines rest)) (sym (append-nil before))
    ∙ ap (λ (k : ℕ). after_lines (with_bus slices kbus (before ++ [])) k (lines rest)) (omega arith)
fields_taken slices kbus number before (field ∷ fields) rest named sized distinct narrow =
    let parts = and_parts (is_sized field) (list_all is_sized fields) sized in
    let s = sizes_of field parts.0 in
    let sum = sum_by-cons (λ f. f.width) field fields in
    let grouped : before ++ field ∷ fields ≡ (before ++ field ∷ []) ++ fields = sym (append_assoc before (field ∷ []) fields) in
    ap (λ (text : List ℕ). after_lines (with_bus slices kbus before) number (lines text))
    (append_assoc (printed (field_runs field)) (fields_text fields) rest)
    ∙ field_taken slices kbus number before field (fields_text fields ++ rest) (first_of_all field fields named) s
    (distinct_before before field fields distinct) (omega (arith, narrow, sum))
    ∙ fields_taken slices kbus (number + 1) (before ++ field ∷ []) fields rest (rest_of_all field fields named) parts.1
    (subst (λ (fs : List Field). are_distinct fs ≡ true) grouped distinct) (omega (arith, narrow, sum, widths_push before field))
    ∙ ap (λ (fs : List Field). after_lines (with_bus slices kbus fs) (number + 1 + length fields) (lines rest)) (sym grouped)
    ∙ ap (λ (k : ℕ). after_lines (with_bus slices kbus (before ++ field ∷ fields)) k (lines rest)) (omega arith)

-- what is declared with the PROMs, and then with the write field
abbrev with_prom : ℕ → ℕ → List Field → ℕ → ℕ → Option (List ℕ) → Declared
with_prom slices kbus fields words bits write =
    record { slices = Some slices; kbus = Some kbus; fields = fields; prom = Some (words, bits); write = write }

-- the PROM line
prom_taken : (slices kbus number : ℕ) (fields : List Field) (words bits : ℕ) (rest : List ℕ) → words ≡ 512
    → (eqb bits 4 || eqb bits 8) ≡ true → bits < 2 ^ 128
    → after_lines (with_bus slices kbus fields) number (lines (printed (prom_runs words bits) ++ rest)) ≡ after_lines
    (with_prom slices kbus fields words bits None) (number + 1) (lines rest)
unfolding refusal directive_form
prom_taken slices kbus number fields words bits rest w b small =
    line_taken (with_bus slices kbus fields) number (prom_runs words bits) (directives.Prom words bits) rest
    (prom_word, (number_is_run words (omega (arith, w)), (number_is_run bits small, tt))) refl
    (rw (eq-eqb words 512 w, b) refl)

-- the line of the write field
write_taken : (slices kbus number : ℕ) (fields : List Field) (words bits : ℕ) (name : List ℕ) → IsName name
    → list_any (can_write name) fields ≡ true
    → after_lines (with_prom slices kbus fields words bits None) number (lines (printed (write_runs name))) ≡ Ok
    (with_prom slices kbus fields words bits (Some name))
unfolding refusal directive_form lines_taken
write_taken slices kbus number fields words bits name is_name can =
    ap (λ (text : List ℕ). after_lines (with_prom slices kbus fields words bits None) number (lines text))
    (sym (append-nil (printed (write_runs name))))
    ∙ line_taken (with_prom slices kbus fields words bits None) number (write_runs name) (directives.Write name) []
    (write_word, (name_is_run name is_name, tt)) refl (rw can refl)

-- ---- the end of the text

-- the bits of a PROM can be printed
small_bits : (bits : ℕ) → (eqb bits 4 || eqb bits 8) ≡ true → bits < 2 ^ 128
small_bits bits h = grind arith

-- the name of the field at a place
name_at : (fields : List Field) (place : ℕ) (field : Field) → All (λ f. IsName f.name) fields → slice_get fields place ≡ Some field
    → IsName field.name
name_at [] place field all e = absurd cc
name_at (f ∷ fields) zero field all e = let same : f ≡ field = cc in subst (λ (g : Field). IsName g.name) same (first_of_all f fields all)
name_at (f ∷ fields) (suc place) field all e = name_at fields place field (rest_of_all f fields all) e

-- what the lines declare gives the declaration back
pub record EndsIn (slices kbus : ℕ) (fields : List Field) (words bits : ℕ) (write : Option ℕ) (number : ℕ) : Type 0 where
  pub name : Option (List ℕ)
  pub read : after_lines (with_prom slices kbus fields words bits None) number (lines (write_text write fields)) ≡ Ok
      (with_prom slices kbus fields words bits name)
  pub place : option_and_then (write_place fields) name ≡ write

-- with a write field
ends_at : (slices kbus : ℕ) (fields : List Field) (words bits place number : ℕ) (found : Option Field) → slice_get fields place ≡ found
    → is_one_bit found ≡ true → All (λ f. IsName f.name) fields → are_distinct fields ≡ true
    → EndsIn slices kbus fields words bits (Some place) number
ends_at slices kbus fields words bits place number None e bit named distinct = absurd cc
ends_at slices kbus fields words bits place number (Some field) e bit named distinct = record {
  name = Some field.name;
  read = ap (λ (o : Option Field). after_lines (with_prom slices kbus fields words bits None) number (lines (write_line o))) e
      ∙ write_taken slices kbus number fields words bits field.name (name_at fields place field named e)
      (can_be_written fields place field e bit);
  place = place_found fields place field distinct e bit;
}

-- with or without a write field
ends_in : (slices kbus : ℕ) (fields : List Field) (words bits : ℕ) (write : Option ℕ) (number : ℕ) → is_write write fields ≡ true
    → All (λ f. IsName f.name) fields → are_distinct fields ≡ true → EndsIn slices kbus fields words bits write number
unfolding lines_taken
ends_in slices kbus fields words bits None number bit named distinct = record { name = None; read = refl; place = refl }
ends_in slices kbus fields words bits (Some place) number bit named distinct =
    ends_at slices kbus fields words bits place number (slice_get fields place) refl bit named distinct

abbrev read_as : Declaration → Option ℕ → Result Declaration (ℕ × AsmKind)
read_as d write = Ok
    (record { slices = d.slices; kbus = d.kbus; fields = d.fields; prom_words = d.prom_words; prom_bits = d.prom_bits; write = write })

-- the printed layout of a declaration is read as that declaration
pub read_again : (d : Declaration) → FitsTogether d → layout_of (layout_text d) ≡ Ok d
unfolding layout_text
read_again d h =
    let number : ℕ = 3 + length d.fields + 1 in
    let end = ends_in d.slices d.kbus d.fields d.prom_words d.prom_bits d.write number h.write_bit h.named h.distinct in
    let tail : List ℕ = write_text d.write d.fields in
    let proms : List ℕ = printed (prom_runs d.prom_words d.prom_bits) ++ tail in
    let all : after_lines (declared_by []) 1 (lines (layout_text d)) ≡ Ok
    (with_prom d.slices d.kbus d.fields d.prom_words d.prom_bits end.name) =
    slices_taken d.slices (printed (kbus_runs d.kbus) ++ (fields_text d.fields ++ proms)) h.some_slices h.most_slices
    ∙ kbus_taken d.slices d.kbus (fields_text d.fields ++ proms) h.most_slices h.some_kbus h.shared (omega (arith, h.word))
    ∙ fields_taken d.slices d.kbus 3 [] d.fields proms h.named h.sized h.distinct (omega (arith, h.word))
    ∙ prom_taken d.slices d.kbus (3 + length d.fields) d.fields d.prom_words d.prom_bits tail h.words h.bits
    (small_bits d.prom_bits h.bits)
    ∙ end.read in
    completed_in (with_prom d.slices d.kbus d.fields d.prom_words d.prom_bits end.name) (layout_text d) all ∙ ap (read_as d) end.place

-- a text that is the layout of a declaration is read as it
pub reads_ok : {V E : Type 0} (items : V → List ℕ) (d : Declaration) → FitsTogether d → (r : Result V E)
    → IfOk r (λ text. items text ≡ layout_text d) → IfOk r (λ text. layout_of (items text) ≡ Ok d)
reads_ok items d h (Ok text) e = ap layout_of e ∙ read_again d h
reads_ok items d h (Err refusal) e = tt
