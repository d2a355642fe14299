-- The text of a refutation is taken for one.
use Rattle.std.proofs.Common.{◌≡◌, ◌≢◌, ℕ, zero, suc, ℤ, neg_ℤ, ◌+◌, ◌-◌, ◌<◌, ◌≤◌, ◌^◌, ◌==◌, Bool, true, false, not, List, [], ◌∷◌, ◌++◌, length, map, take, get_or, Option, Some, None, refl, sym, ap, subst, ◌∙◌, append_assoc, length-append, arith}
use Rattle.std.specs.Prelude.{All, AllPairs, nat_lt}
use Rattle.std.specs.Bool.{if◌then◌else◌}
use Rattle.std.specs.List.{list_all, list_any}
use Rattle.std.proofs.lemmas.Bool.{and_from}
use Rattle.std.proofs.lemmas.Bool.Decides.{nat_tests}
use Rattle.std.proofs.lemmas.List.{append-nil}
use Rattle.std.proofs.lemmas.List.Elements.{All-tail}
use Rattle.std.proofs.lemmas.List.Folds.{list_any_none}
use Rattle.std.proofs.lemmas.List.Splits.{slice_split_at, length-slice_split}
use Rattle.std.proofs.lemmas.Option.{slice_get_within}
use Rattle.clause_base.specs.Lit.{var_of}
use Rattle.clause_base.specs.Clauses.{Clauses}
use Rattle.clause_base.specs.Truth.{IsNumbered}
use Rattle.clause_base.specs.declared.line.Line.{Line}
use Rattle.clause_base.specs.Refutation.{IsUnitRun, Derived, clause_of, with_lines, AreDerived, Refutes}
use Rattle.ref_text.specs.declared.why.Why.{Why}
use Rattle.ref_text.specs.declared.why.Why.TheVariants as why
use Rattle.ref_text.specs.Form.{Written, form}
use Rattle.ref_text.specs.Fault.{is_variable, are_literals, written_fault, line_of, is_empty}
use Rattle.ref_text.specs.Text.{line_text, lines_text, refutation_text}
use Rattle.ref_text.specs.Printed.{CanBeRead}
use Rattle.ref_text.proofs.MarkLemmas.{all_three}
use Rattle.ref_text.proofs.PrintedLemmas.{line_said}
use Rattle.refute_check.specs.Hints.{AreHints}
use Rattle.refute_check.specs.Check.{lines_of, or_hints, line_fault, with_line, or_further, progress, verdict, check}
use Rattle.refute_check.specs.declared.checked.Checked.TheVariants as checked
use Rattle.refute_check.proofs.DeriveLemmas.{runs_judged}

pub pairs_tail : {X : Type 0} (R : X → X → Type 0) (x : X) (xs : List X) → AllPairs R (x ∷ xs) → AllPairs R xs
pairs_tail R x xs apart i j d lt within = apart (suc i) (suc j) d (omega arith) (omega arith)

-- literals of the list's variables that are apart pass the reader's test
literals_pass : (vars : ℕ) (zs : List ℤ) → All (λ z. 0 < var_of z) zs → All (λ z. var_of z ≤ vars) zs
    → AllPairs (λ a b. var_of a ≢ var_of b) zs → are_literals vars zs ≡ true
unfolding are_literals
literals_pass vars [] above in_range apart = refl
literals_pass vars (z ∷ zs) above in_range apart =
    let low : 0 < var_of z = above 0 z (omega arith) in
    let high : var_of z ≤ vars = in_range 0 z (omega arith) in
    let variable : is_variable vars (var_of z) ≡ true = grind (arith, nat_tests) in
    let none : list_any (λ y. var_of y == var_of z) zs ≡ false =
    list_any_none (λ y. var_of y == var_of z) zs
    (λ k d lt. let other : var_of z ≢ var_of (get_or zs k d) = apart 0 (suc k) d (omega arith) (omega arith) in
    grind (arith, nat_tests)) in
    all_three _ _ _ variable (ap not none)
    (literals_pass vars zs (All-tail (λ z. 0 < var_of z) z zs above) (All-tail (λ z. var_of z ≤ vars) z zs in_range)
    (pairs_tail (λ a b. var_of a ≢ var_of b) z zs apart))

-- hints below a line's number pass the reader's test
below_pass : (number : ℕ) (hints : List ℕ) → All (λ hint. hint < number) hints → list_all (λ hint. nat_lt hint number) hints ≡ true
below_pass number [] all = refl
below_pass number (h ∷ hints) all =
    let lt : h < number = all 0 h (omega arith) in
    let first : nat_lt h number ≡ true = grind (arith, nat_tests) in
    rw first (below_pass number hints (All-tail (λ hint. hint < number) h hints all))

-- the clause of a number is one of the list
numbered_in : (clauses : List (List ℤ)) (number : ℕ) (clause : List ℤ) → IsNumbered clauses number clause
    → (0 < number) × (number ≤ length clauses)
numbered_in clauses number clause n =
    let lt = slice_get_within clauses (number - 1) clause n.there in
    (n.above, omega (arith, lt, n.above))

-- the hints of a run are numbers of clauses
pub run_hints : (clauses : List (List ℤ)) (held : List ℤ) (hints : List ℕ) → IsUnitRun clauses held hints → AreHints clauses hints
run_hints clauses held [] r k d lt = absurd r
run_hints clauses held (last ∷ []) r zero d lt = numbered_in clauses last r.clause r.numbered
run_hints clauses held (last ∷ []) r (suc k) d lt = absurd (omega arith)
run_hints clauses held (h ∷ (next ∷ rest)) r zero d lt = let f = r.1 in numbered_in clauses h f.clause f.numbered
run_hints clauses held (h ∷ (next ∷ rest)) r (suc k) d lt = run_hints clauses (held ++ r.0 ∷ []) (next ∷ rest) r.2 k d (omega arith)

run_some : (clauses : List (List ℤ)) (held : List ℤ) (hints : List ℕ) → IsUnitRun clauses held hints → 0 < length hints
run_some clauses held [] r = absurd r
run_some clauses held (h ∷ hints) r = omega arith

-- the numbers of a derived line fit a text
pub derived_fits : (list : Clauses) (line : Line) → Derived list line → list.vars < 2 ^ 32 → length list.clauses + 1 < 2 ^ 32
    → CanBeRead (length list.clauses + 1) line
derived_fits list line derived few small =
    let hints = run_hints list.clauses (map neg_ℤ line.clause) line.hints derived.run in
    record {
      small = small;
      literals = λ k d lt. (derived.above k d lt, omega (arith, derived.in_range k d lt));
      hints = λ k d lt. ((hints k d lt).0, omega (arith, (hints k d lt).1));
    }

-- a derived line is not refused
fault_none : (list : Clauses) (line : Line) → Derived list line →
    or_hints list line (written_fault (length list.clauses + 1) list.vars false
    (Some (record { number = length list.clauses + 1; line = line }))) ≡ None
fault_none list line derived =
    let number = length list.clauses + 1 in
    let hints = run_hints list.clauses (map neg_ℤ line.clause) line.hints derived.run in
    let some = run_some list.clauses (map neg_ℤ line.clause) line.hints derived.run in
    let numbered : (number == number) ≡ true = grind (arith, nat_tests) in
    let literals = literals_pass list.vars line.clause derived.above derived.in_range derived.apart in
    let below : list_all (λ hint. nat_lt hint number) line.hints ≡ true =
    below_pass number line.hints (λ k d lt. omega (arith, (hints k d lt).1)) in
    let there : nat_lt 0 (length line.hints) ≡ true = grind (arith, nat_tests) in
    ap (or_hints list line) (no_fault _ _ _ numbered literals (and_from _ _ there below))
    ∙ runs_judged list.clauses (map neg_ℤ line.clause) line.hints some derived.run
  where
    no_fault : (a b c : Bool) → a ≡ true → b ≡ true → c ≡ true →
        (if not a then Some why.Number else if not b then Some why.Literal else if not c then Some why.Hint else None) ≡ None
    no_fault true true true h k l = refl
    no_fault true true false h k l = cc
    no_fault true false c h k l = cc
    no_fault false b c h k l = cc

line_passes : (list : Clauses) (line : Line) (body : List ℕ) → Derived list line
    → form body ≡ Some (record { number = length list.clauses + 1; line = line }) → line_fault list false body ≡ None
line_passes list line body derived says =
    ap (λ (o : Option Written). or_hints list (line_of o) (written_fault (length list.clauses + 1) list.vars false o)) says
    ∙ fault_none list line derived

-- behind a derived line, whose bytes say it
body_step : (list : Clauses) (count : ℕ) (line : Line) (body : List ℕ) (parts : List (List ℕ)) → Derived list line →
    form body ≡ Some (record { number = length list.clauses + 1; line = line }) → 0 < length parts →
    progress list count false (body ∷ parts) ≡ progress (with_line list line) (count + 1) (is_empty line) parts
unfolding progress
body_step list count line body [] derived says some = absurd (omega arith)
body_step list count line body (next ∷ parts) derived says some =
    ap (λ (o : Option Why). or_further count false o
    (progress (with_line list (line_of (form body))) (count + 1) (is_empty (line_of (form body))) (next ∷ parts)))
    (line_passes list line body derived says)
    ∙ ap (λ (o : Option Written). progress (with_line list (line_of o)) (count + 1) (is_empty (line_of o)) (next ∷ parts)) says

-- behind the text of a derived line
text_step : (list : Clauses) (count : ℕ) (line : Line) (rest : List ℕ) → Derived list line → list.vars < 2 ^ 32
    → length list.clauses + 1 < 2 ^ 32 →
    progress list count false (lines_of (line_text (length list.clauses + 1) line ++ rest)) ≡ progress (with_line list line) (count + 1)
    (is_empty line) (lines_of rest)
text_step list count line rest derived few small =
    let said = line_said (length list.clauses + 1) line (derived_fits list line derived few small) in
    ap (λ (text : List ℕ). progress list count false (lines_of (text ++ rest))) said.ended
    ∙ ap (λ (text : List ℕ). progress list count false (lines_of text)) (append_assoc said.body (10 ∷ []) rest)
    ∙ ap (progress list count false) (slice_split_at (λ b. b == 10) said.body 10 rest said.one_line refl)
    ∙ body_step list count line said.body (lines_of rest) derived said.says (omega (arith, length-slice_split (λ b. b == 10) rest))

-- the first line and the others
pub derived_first : (list : Clauses) (line : Line) (lines : List Line) → AreDerived list (line ∷ lines) → Derived list line
derived_first list line lines derived =
    let none : with_lines list [] ≡ list =
    ap (λ (cs : List (List ℤ)). record { vars = list.vars; clauses = cs }) (append-nil list.clauses) in
    subst (λ (k : Clauses). Derived k line) none (derived 0 line refl)

pub derived_rest : (list : Clauses) (line : Line) (lines : List Line) → AreDerived list (line ∷ lines)
    → AreDerived (with_line list line) lines
derived_rest list line lines derived k l is =
    let more : with_lines (with_line list line) (take k lines) ≡ with_lines list (line ∷ take k lines) =
    ap (λ (cs : List (List ℤ)). record { vars = list.vars; clauses = cs })
    (append_assoc list.clauses (line.clause ∷ []) (map clause_of (take k lines))) in
    subst (λ (c : Clauses). Derived c l) (sym more) (derived (suc k) l is)

empty_is : (line : Line) → line.clause ≡ [] → is_empty line ≡ true
empty_is line e = ap (λ (c : List ℤ). length c == 0) e

full_is : (line : Line) → line.clause ≢ [] → is_empty line ≡ false
full_is line full = by line.clause full
  where
    by : (c : List ℤ) → c ≢ [] → (length c == 0) ≡ false
    by [] some = absurd (some refl)
    by (z ∷ zs) some = grind (arith, nat_tests)

-- how far the text of lines goes of which just the last has no literal
text_read : (front : List Line) (last : Line) (list : Clauses) (count : ℕ) → AreDerived list (front ++ last ∷ [])
    → All (λ line. line.clause ≢ []) front → last.clause ≡ [] →
    list.vars < 2 ^ 32 → length list.clauses + length (front ++ last ∷ []) < 2 ^ 32 →
    progress list count false
    (lines_of (lines_text (length list.clauses + 1) (front ++ last ∷ [])))
    ≡ record { count = count + length (front ++ last ∷ []); over = true; bad = None; begun = false }
unfolding progress lines_text
text_read [] last list count derived full empty few small =
    text_step list count last [] (derived_first list last [] derived) few small
    ∙ ap (λ (over : Bool). record { count = count + 1; over = over; bad = None; begun = false }) (empty_is last empty)
text_read (line ∷ front) last list count derived full empty few small =
    let rest = front ++ last ∷ [] in
    let more : length list.clauses + 1 + 1 ≡ length (list.clauses ++ line.clause ∷ []) + 1 =
    omega (arith, length-append list.clauses (line.clause ∷ [])) in
    let sum : count + 1 + length rest ≡ count + length (line ∷ rest) = omega arith in
    text_step list count line (lines_text (length list.clauses + 1 + 1) rest) (derived_first list line rest derived) few (omega arith)
    ∙ ap (λ (over : Bool). progress (with_line list line) (count + 1) over (lines_of (lines_text (length list.clauses + 1 + 1) rest)))
    (full_is line (full 0 line (omega arith)))
    ∙ ap (λ (n : ℕ). progress (with_line list line) (count + 1) false (lines_of (lines_text n rest))) more
    ∙ text_read front last (with_line list line) (count + 1) (derived_rest list line rest derived)
    (All-tail (λ line. line.clause ≢ []) line front full) empty few
    (omega (arith, length-append list.clauses (line.clause ∷ [])))
    ∙ ap (λ (n : ℕ). record { count = n; over = true; bad = None; begun = false }) sum

-- the text of a refutation is taken for one
pub refutation_taken : (list : Clauses) (lines : List Line) → list.vars < 2 ^ 32 → length list.clauses + length lines < 2 ^ 32
    → Refutes list lines →
    check list (refutation_text (length list.clauses) lines) ≡ checked.Refutes (length lines)
refutation_taken list lines few small refutes =
    let read = text_read refutes.front refutes.last list 0 (subst (AreDerived list) refutes.split refutes.derived)
    refutes.full refutes.empty few
    (subst (λ (ls : List Line). length list.clauses + length ls < 2 ^ 32) refutes.split small) in
    ap (λ (ls : List Line). check list (refutation_text (length list.clauses) ls)) refutes.split
    ∙ ap verdict read
    ∙ ap checked.Refutes (omega arith)
    ∙ ap (λ (ls : List Line). checked.Refutes (length ls)) (sym refutes.split)
