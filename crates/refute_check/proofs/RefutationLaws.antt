-- The lines of a text that refutes a list are a refutation of it.
use Rattle.std.proofs.Common.{◌≡◌, ◌≢◌, ℕ, zero, suc, ℤ, ◌+◌, ◌==◌, Bool, true, false, not, List, [], ◌∷◌, ◌++◌, length, map, take, Option, Some, None, refl, sym, ap, subst, inl, inr, append_assoc, arith}
use Rattle.std.specs.Prelude.{All}
use Rattle.std.proofs.lemmas.Bool.{cases_Bool, both_ways}
use Rattle.std.proofs.lemmas.Bool.Decides.{nat_tests}
use Rattle.std.proofs.lemmas.List.{append-nil}
use Rattle.clause_base.specs.Clauses.{Clauses}
use Rattle.clause_base.specs.declared.line.Line.{Line}
use Rattle.clause_base.specs.Refutation.{Derived, clause_of, with_lines, AreDerived, Refutes}
use Rattle.ref_text.specs.Form.{form}
use Rattle.ref_text.specs.Fault.{text_fault, line_of, is_empty}
use Rattle.ref_text.specs.declared.why.Why.{Why}
use Rattle.ref_text.proofs.RightLemmas.{fault_passes}
use Rattle.refute_check.specs.Check.{lines_of, or_hints, line_fault, with_line, or_further, progress, verdict_of, check}
use Rattle.refute_check.specs.Check.{Progress}
use Rattle.refute_check.specs.declared.checked.Checked.TheVariants as checked
use Rattle.refute_check.proofs.CheckLemmas.{line_derived}

-- a derived line, and lines that are derived behind it
derived_more : (list : Clauses) (line : Line) (lines : List Line) → Derived list line → AreDerived (with_line list line) lines
    → AreDerived list (line ∷ lines)
derived_more list line lines first rest zero l is =
    let same : line ≡ l = cc in
    let none : list ≡ with_lines list [] =
    ap (λ (cs : List (List ℤ)). record { vars = list.vars; clauses = cs }) (sym (append-nil list.clauses)) in
    subst (λ (k : Clauses). Derived k l) none (subst (λ (x : Line). Derived list x) same first)
derived_more list line lines first rest (suc k) l is =
    let more : with_lines (with_line list line) (take k lines) ≡ with_lines list (line ∷ take k lines) =
    ap (λ (cs : List (List ℤ)). record { vars = list.vars; clauses = cs })
    (append_assoc list.clauses (line.clause ∷ []) (map clause_of (take k lines))) in
    subst (λ (c : Clauses). Derived c l) more (rest k l is)

-- lines of which just the last has no literal
record Ends (lines : List Line) : Type 0 where
  pub front : List Line
  pub last : Line
  pub split : lines ≡ front ++ last ∷ []
  pub full : All (λ line. line.clause ≢ []) front
  pub empty : last.clause ≡ []

-- the lines that were read where none was refused
record AreRead (list : Clauses) (count : ℕ) (over : Bool) (p : Progress) : Type 0 where
  pub lines : List Line
  pub counted : p.count ≡ count + length lines
  pub derived : AreDerived list lines
  pub stays : over ≡ true → lines ≡ []
  pub ends : over ≡ false → p.over ≡ true → Ends lines

nothing_read : (list : Clauses) (count : ℕ) (over : Bool) (begun : Bool)
    → AreRead list count over (record { count = count; over = over; bad = None; begun = begun })
nothing_read list count over begun = record {
  lines = [];
  counted = omega arith;
  derived = λ k line is. let no : ⊥ = cc in absurd no;
  stays = λ e. refl;
  ends = λ f t. absurd (both_ways over f t);
}

not_over : (list : Clauses) (over : Bool) (line : List ℕ) → line_fault list over line ≡ None → over ≡ false
not_over list over line e = by (text_fault (length list.clauses + 1) list.vars over line) refl e
  where
    by : (o : Option Why) → text_fault (length list.clauses + 1) list.vars over line ≡ o → or_hints list (line_of (form line)) o ≡ None
        → over ≡ false
    by (Some why) is h = cc
    by None is h = (fault_passes (length list.clauses + 1) list.vars over (form line) is).not_over

no_literal : (clause : List ℤ) → (length clause == 0) ≡ true → clause ≡ []
no_literal [] e = refl
no_literal (z ∷ zs) e = absurd (grind (arith, nat_tests))

some_literal : (clause : List ℤ) → (length clause == 0) ≡ false → clause ≢ []
some_literal clause e none = let no : (length clause == 0) ≡ true = ap (λ (c : List ℤ). length c == 0) none in both_ways _ e no

full_more : (line : Line) (front : List Line) → line.clause ≢ [] → All (λ l. l.clause ≢ []) front
    → All (λ l. l.clause ≢ []) (line ∷ front)
full_more line front first rest zero d lt = first
full_more line front first rest (suc k) d lt = rest k d (omega arith)

read_more : (list : Clauses) (count : ℕ) (over : Bool) (line : List ℕ) (p : Progress) → line_fault list over line ≡ None →
    AreRead (with_line list (line_of (form line))) (count + 1) (is_empty (line_of (form line))) p → AreRead list count over p
read_more list count over line p right more =
    let first = line_of (form line) in
    record {
      lines = first ∷ more.lines;
      counted = omega (arith, more.counted);
      derived = derived_more list first more.lines (line_derived list over line right) more.derived;
      stays = λ t. absurd (both_ways over (not_over list over line right) t);
      ends = λ f t. elim (cases_Bool (is_empty first)) [
        | inl empty ↦ record {
          front = [];
          last = first;
          split = ap (λ (ls : List Line). first ∷ ls) (more.stays empty);
          full = λ k d lt. absurd (omega arith);
          empty = no_literal first.clause empty;
        }
        | inr full ↦
            let e = more.ends full t in
            record {
              front = first ∷ e.front;
              last = e.last;
              split = ap (λ (ls : List Line). first ∷ ls) e.split;
              full = full_more first e.front (some_literal first.clause full) e.full;
              empty = e.empty;
            }
      ];
    }

are_read : (parts : List (List ℕ)) (list : Clauses) (count : ℕ) (over : Bool) → (progress list count over parts).bad ≡ None
    → AreRead list count over (progress list count over parts)
unfolding progress
are_read [] list count over good = nothing_read list count over false
are_read (rest ∷ []) list count over good = nothing_read list count over (not (length rest == 0))
are_read (line ∷ (next ∷ parts)) list count over good = by (line_fault list over line) refl
    (λ h. are_read (next ∷ parts) (with_line list (line_of (form line))) (count + 1) (is_empty (line_of (form line))) h) good
  where
    further : Progress
    further = progress (with_line list (line_of (form line))) (count + 1) (is_empty (line_of (form line))) (next ∷ parts)

    by : (o : Option Why) → line_fault list over line ≡ o
        → (further.bad ≡ None → AreRead (with_line list (line_of (form line))) (count + 1) (is_empty (line_of (form line))) further) →
        (or_further count over o further).bad ≡ None → AreRead list count over (or_further count over o further)
    by (Some why) is more h = cc
    by None is more h = read_more list count over line further is (more h)

-- what a verdict says of the progress
record Refuted (count : ℕ) (over : Bool) (bad : Option Why) (k : ℕ) : Type 0 where
  pub good : bad ≡ None
  pub over_is : over ≡ true
  pub counted : count ≡ k

refuted : (count : ℕ) (over : Bool) (bad : Option Why) (begun : Bool) (k : ℕ) → verdict_of count over bad begun ≡ checked.Refutes k
    → Refuted count over bad k
refuted count over (Some why) begun k e = cc
refuted count over None true k e = cc
refuted count false None false k e = cc
refuted count true None false k e = record { good = refl; over_is = refl; counted = cc }

pub refutes_text : (list : Clauses) (bytes : List ℕ) (k : ℕ) → check list bytes ≡ checked.Refutes k
    → (lines : List Line) × (length lines ≡ k) × Refutes list lines
refutes_text list bytes k e =
    let p = progress list 0 false (lines_of bytes) in
    let v = refuted p.count p.over p.bad p.begun k e in
    let r = are_read (lines_of bytes) list 0 false v.good in
    let ends = r.ends refl v.over_is in (
      r.lines,
      omega (arith, r.counted, v.counted),
      record {
        derived = r.derived;
        front = ends.front;
        last = ends.last;
        split = ends.split;
        full = ends.full;
        empty = ends.empty;
      },
    )
