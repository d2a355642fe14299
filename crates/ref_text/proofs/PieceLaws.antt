-- A cut between pieces changes nothing, and a text's lines alone decide what a reader tells.
use Rattle.std.proofs.Common.{◌≡◌, ℕ, zero, suc, ◌+◌, ◌<◌, ◌≤◌, ◌==◌, Bool, true, false, not, cond, List, [], ◌∷◌, ◌++◌, length, take, Option, Some, None, refl, sym, ap, subst, ◌∙◌, inl, inr, append_assoc, arith}
use Rattle.std.specs.List.{slice_split, onto_first}
use Rattle.std.proofs.lemmas.Bool.{cases_Bool}
use Rattle.std.proofs.lemmas.Bool.Decides.{nat_tests}
use Rattle.std.proofs.lemmas.List.{append-nil, take_all}
use Rattle.std.proofs.lemmas.List.Splits.{length-slice_split}
use Rattle.std.proofs.lemmas.List.Sums.{prefix_len-le-length}
use Rattle.ref_text.specs.Form.{form}
use Rattle.ref_text.specs.Fault.{text_fault, line_of, is_empty}
use Rattle.ref_text.specs.Reading.{Reader, first, with_line, with_bad, with_bytes, judged, at_end, told, lf_at, after_good, fed_of, after_feed}
use Rattle.ref_text.specs.Pieces.{on, after, events_at, events, brought, IsFed, or_further, lines_bring}
use Rattle.ref_text.specs.declared.why.Why.{Why}
use Rattle.ref_text.specs.declared.events.Event.TheVariants as event
use Rattle.ref_text.specs.declared.events.Fed.{Fed}

-- a cut changes nothing: the reader after both pieces
pub after_cut : (r : Reader) (xs ys : List ℕ) → after r (xs ++ ys) ≡ after (after r xs) ys
unfolding after
after_cut r [] ys = refl
after_cut r (x ∷ xs) ys = after_cut (on r.bad r x) xs ys

-- a reader that refused a line stays as it is, and bytes bring nothing
bad_stays : (r : Reader) (why : Why) (bs : List ℕ) → r.bad ≡ Some why → after r bs ≡ r
unfolding after
bad_stays r why [] h = refl
bad_stays r why (b ∷ bs) h = ap (λ o. after (on o r b) bs) h ∙ bad_stays r why bs h

bad_tells : (r : Reader) (why : Why) (bs : List ℕ) → r.bad ≡ Some why → events r bs ≡ []
unfolding events
bad_tells r why [] h = refl
bad_tells r why (b ∷ bs) h = ap (λ o. events_at o (b == 10) r (events (on r.bad r b) bs)) h

-- a cut changes nothing: what is told
pub events_cut : (r : Reader) (xs ys : List ℕ) → events r (xs ++ ys) ≡ events r xs ++ events (after r xs) ys
unfolding after events
events_cut r [] ys = refl
events_cut r (x ∷ xs) ys = by r.bad (x == 10) refl (events_cut (on r.bad r x) xs ys)
  where
    by : (bad : Option Why) (lf : Bool) → r.bad ≡ bad
        → events (on r.bad r x) (xs ++ ys) ≡ events (on r.bad r x) xs ++ events (after (on r.bad r x) xs) ys →
        events_at bad lf r (events (on r.bad r x) (xs ++ ys)) ≡ events_at bad lf r (events (on r.bad r x) xs) ++ events
        (after (on r.bad r x) xs) ys
    by (Some why) lf is h =
        sym (ap (λ o. events (after (on o r x) xs) ys) is ∙ ap (λ t. events t ys) (bad_stays r why xs is) ∙ bad_tells r why ys is)
    by None true is h = ap (λ es. told r.count (at_end r).bad ∷ es) h
    by None false is h = h

-- the bytes of the line that is begun are others
abbrev with_begun : Reader → List ℕ → Reader
with_begun r begun =
    record {
      vars = r.vars;
      count = r.count;
      number = r.number;
      over = r.over;
      begun = begun;
      bad = r.bad;
      last = r.last;
      failed = r.failed;
    }

no_bytes : (r : Reader) → with_bytes r [] ≡ r
no_bytes r = ap (with_begun r) (append-nil r.begun)

more_bytes : (r : Reader) (b : ℕ) (bs : List ℕ) → with_bytes (with_bytes r (b ∷ [])) bs ≡ with_bytes r (b ∷ bs)
more_bytes r b bs = ap (with_begun r) (append_assoc r.begun (b ∷ []) bs)

next_inside : (r : Reader) (b : ℕ) → r.bad ≡ None → (b == 10) ≡ false → on r.bad r b ≡ with_bytes r (b ∷ [])
next_inside r b good is = ap (λ o. on o r b) good ∙ rw is refl

-- bytes of a line that does not end
record Inside (r : Reader) (bs : List ℕ) : Type 0 where
  pub reader : after r bs ≡ with_bytes r bs
  pub nothing : events r bs ≡ []

inside_line : (r : Reader) (bs : List ℕ) → r.bad ≡ None → length bs ≤ lf_at bs → Inside r bs
unfolding after events
inside_line r [] good le = record { reader = sym (no_bytes r); nothing = refl }
inside_line r (b ∷ bs) good le = elim (cases_Bool (b == 10)) [
  | inl is ↦ let z : lf_at (b ∷ bs) ≡ 0 = rw is refl in absurd (omega (arith, z, le))
  | inr is ↦
      let z : lf_at (b ∷ bs) ≡ 1 + lf_at bs = rw is refl in
      let k = inside_line (with_bytes r (b ∷ [])) bs good (omega (arith, z, le)) in
      let one = next_inside r b good is in
      record {
        reader = ap (λ t. after t bs) one ∙ k.reader ∙ more_bytes r b bs;
        nothing = ap (λ o. events_at o (b == 10) r (events (on r.bad r b) bs)) good
            ∙ ap (λ lf. events_at None lf r (events (on r.bad r b) bs)) is ∙ ap (λ t. events t bs) one ∙ k.nothing;
      }
]

-- bytes up to the first LF
record Ends (r : Reader) (bs : List ℕ) (n : ℕ) : Type 0 where
  pub reader : after r (take (suc n) bs) ≡ at_end (with_bytes r (take n bs))
  pub event : events r (take (suc n) bs) ≡ told r.count (at_end (with_bytes r (take n bs))).bad ∷ []

line_ends : (r : Reader) (bs : List ℕ) (n : ℕ) → r.bad ≡ None → lf_at bs ≡ n → n < length bs → Ends r bs n
unfolding after events
line_ends r [] n good at lt = absurd (omega arith)
line_ends r (b ∷ bs) zero good at lt = elim (cases_Bool (b == 10)) [
  | inl is ↦ record {
    reader = ap (λ o. on o r b) good ∙ rw is refl ∙ ap at_end (sym (no_bytes r));
    event = ap (λ o. events_at o (b == 10) r (events (on r.bad r b) [])) good
        ∙ ap (λ lf. events_at None lf r (events (on r.bad r b) [])) is ∙ ap (λ t. told r.count (at_end t).bad ∷ []) (sym (no_bytes r));
  }
  | inr is ↦ let z : lf_at (b ∷ bs) ≡ 1 + lf_at bs = rw is refl in absurd (omega (arith, z, at))
]
line_ends r (b ∷ bs) (suc n) good at lt = elim (cases_Bool (b == 10)) [
  | inl is ↦ let z : lf_at (b ∷ bs) ≡ 0 = rw is refl in absurd (omega (arith, z, at))
  | inr is ↦
      let z : lf_at (b ∷ bs) ≡ 1 + lf_at bs = rw is refl in
      let k = line_ends (with_bytes r (b ∷ [])) bs n good (omega (arith, z, at)) (omega (arith, lt)) in
      let one = next_inside r b good is in
      record {
        reader = ap (λ t. after t (take (suc n) bs)) one ∙ k.reader ∙ ap at_end (more_bytes r b (take n bs));
        event = ap (λ o. events_at o (b == 10) r (events (on r.bad r b) (take (suc n) bs))) good
            ∙ ap (λ lf. events_at None lf r (events (on r.bad r b) (take (suc n) bs))) is ∙ ap (λ t. events t (take (suc n) bs)) one
            ∙ k.event
            ∙ ap (λ t. told r.count (at_end t).bad ∷ []) (more_bytes r b (take n bs));
      }
]

not_both : {o : Option Why} (why : Why) → o ≡ None → o ≡ Some why → ⊥
not_both why n s = let e : None ≡ Some why = sym n ∙ s in cc

brought_told : (count : ℕ) (bad : Option Why) → brought (told count bad) ≡ told count bad ∷ []
brought_told count None = refl
brought_told count (Some why) = refl

-- a call of `feed` uses bytes and tells what they bring
pub feed_law : (r : Reader) (piece : List ℕ) → IsFed r piece (after_feed r.bad r piece) (fed_of r.bad r piece)
unfolding after events
feed_law r piece = by r.bad refl (lf_at piece == length piece) refl
  where
    of_good : (b : Bool) → r.bad ≡ None → (lf_at piece == length piece) ≡ b →
        IsFed r piece (cond b (with_bytes r piece) (at_end (with_bytes r (take (lf_at piece) piece))))
        (cond b (record { used = length piece; event = event.More })
        (record { used = lf_at piece + 1; event = told r.count (at_end (with_bytes r (take (lf_at piece) piece))).bad }))
    of_good true good is =
        let whole : take (length piece) piece ≡ piece = take_all (length piece) piece (omega arith) in
        let k = inside_line r piece good (grind (arith, nat_tests)) in
        record { reader = sym (ap (after r) whole ∙ k.reader); tells = λ h. ap (events r) whole ∙ k.nothing }
    of_good false good is =
        let le = prefix_len-le-length (λ b. not (b == 10)) piece in
        let lt : lf_at piece < length piece = grind (arith, nat_tests, le) in
        let k = line_ends r piece (lf_at piece) good refl lt in
        let one : lf_at piece + 1 ≡ suc (lf_at piece) = omega arith in
        record {
          reader = sym (ap (λ (m : ℕ). after r (take m piece)) one ∙ k.reader);
          tells = λ h. ap (λ (m : ℕ). events r (take m piece)) one ∙ k.event
              ∙ sym (brought_told r.count (at_end (with_bytes r (take (lf_at piece) piece))).bad);
        }

    by : (o : Option Why) → r.bad ≡ o → (b : Bool) → (lf_at piece == length piece) ≡ b
        → IsFed r piece (after_feed o r piece) (fed_of o r piece)
    by (Some why) good b is = record { reader = refl; tells = λ none. absurd (not_both why none good) }
    by None good b is = of_good (lf_at piece == length piece) good refl

-- bytes that stand before the first part
abbrev onto_begun : List ℕ → List (List ℕ) → List (List ℕ)
onto_begun begun [] = []
onto_begun begun (part ∷ parts) = (begun ++ part) ∷ parts

onto_none : (parts : List (List ℕ)) → onto_begun [] parts ≡ parts
onto_none [] = refl
onto_none (part ∷ parts) = refl

onto_next : (begun : List ℕ) (b : ℕ) (parts : List (List ℕ)) → 0 < length parts
    → onto_begun (begun ++ b ∷ []) parts ≡ onto_begun begun (onto_first b parts)
onto_next begun b [] some = absurd (omega arith)
onto_next begun b (part ∷ parts) some = ap (λ line. line ∷ parts) (append_assoc begun (b ∷ []) part)

-- a line and then other parts
bring_line : (number vars count : ℕ) (over : Bool) (line : List ℕ) (parts : List (List ℕ)) → 0 < length parts →
    lines_bring number vars count over (line ∷ parts) ≡ or_further count (text_fault number vars over line)
    (lines_bring (number + 1) vars (count + 1) (is_empty (line_of (form line))) parts)
unfolding lines_bring
bring_line number vars count over line [] some = absurd (omega arith)
bring_line number vars count over line (next ∷ parts) some = refl

-- the whole lines of a text decide what is told
events_lines : (r : Reader) (bytes : List ℕ) → r.bad ≡ None
    → events r bytes ≡ lines_bring r.number r.vars r.count r.over (onto_begun r.begun (slice_split (λ b. b == 10) bytes))
unfolding events lines_bring
events_lines r [] good = refl
events_lines r (b ∷ bs) good = by (b == 10) refl (λ t h. events_lines t bs h)
  where
    parts : List (List ℕ)
    parts = slice_split (λ b. b == 10) bs

    some : 0 < length parts
    some = omega (arith, length-slice_split (λ b. b == 10) bs)

    at_lf : (o : Option Why)
        → ((t : Reader) → t.bad ≡ None → events t bs ≡ lines_bring t.number t.vars t.count t.over (onto_begun t.begun parts)) →
        told r.count (judged r o).bad ∷ events (judged r o) bs ≡ or_further r.count o
        (lines_bring (r.number + 1) r.vars (r.count + 1) (is_empty (line_of (form r.begun))) parts)
    at_lf None further =
        ap (λ es. event.Line ∷ es)
        (further (with_line r (line_of (form r.begun))) refl
        ∙ ap (lines_bring (r.number + 1) r.vars (r.count + 1) (is_empty (line_of (form r.begun)))) (onto_none parts))
    at_lf (Some why) further = ap (λ es. event.Bad (r.count + 1) why ∷ es) (bad_tells (with_bad r why) why bs refl)

    by : (lf : Bool) → (b == 10) ≡ lf
        → ((t : Reader) → t.bad ≡ None → events t bs ≡ lines_bring t.number t.vars t.count t.over (onto_begun t.begun parts)) →
        events_at r.bad (b == 10) r (events (on r.bad r b) bs) ≡ lines_bring r.number r.vars r.count r.over
        (onto_begun r.begun (cond lf ([] ∷ parts) (onto_first b parts)))
    by true is further =
        ap (λ o. events_at o (b == 10) r (events (on o r b) bs)) good ∙ rw is refl
        ∙ at_lf (text_fault r.number r.vars r.over r.begun) further
        ∙ sym (bring_line r.number r.vars r.count r.over r.begun parts some)
        ∙ ap (λ line. lines_bring r.number r.vars r.count r.over (line ∷ parts)) (sym (append-nil r.begun))
    by false is further =
        ap (λ o. events_at o (b == 10) r (events (on o r b) bs)) good ∙ rw is refl
        ∙ further (with_bytes r (b ∷ [])) good
        ∙ ap (lines_bring r.number r.vars r.count r.over) (onto_next r.begun b parts some)

-- from the first line on
pub first_events : (number vars : ℕ) (text : List ℕ)
    → events (first number vars) text ≡ lines_bring number vars 0 false (slice_split (λ b. b == 10) text)
first_events number vars text = events_lines (first number vars) text refl
    ∙ ap (lines_bring number vars 0 false) (onto_none (slice_split (λ b. b == 10) text))

-- a call whose answer and reader are those of the definition
pub feed_is : (r new : Reader) (piece : List ℕ) (fed : Fed) → fed ≡ fed_of r.bad r piece → new ≡ after_feed r.bad r piece
    → IsFed r piece new fed
feed_is r new piece fed told is =
    subst (λ (f : Fed). IsFed r piece new f) (sym told)
    (subst (λ (t : Reader). IsFed r piece t (fed_of r.bad r piece)) (sym is) (feed_law r piece))

-- memory was refused after a call just where it was before
pub feed_fails : (r : Reader) (piece : List ℕ) → (after_good r piece).failed ≡ r.failed
feed_fails r piece = by (lf_at piece == length piece)
  where
    of_fault : (o : Option Why) → (judged (with_bytes r (take (lf_at piece) piece)) o).failed ≡ r.failed
    of_fault None = refl
    of_fault (Some why) = refl

    by : (b : Bool) → (cond b (with_bytes r piece) (at_end (with_bytes r (take (lf_at piece) piece)))).failed ≡ r.failed
    by true = refl
    by false = of_fault (text_fault r.number r.vars r.over (r.begun ++ take (lf_at piece) piece))
