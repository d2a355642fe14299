-- What a piece brings to a reader that may have begun a line.
use Rattle.std.proofs.Common.{◌≡◌, ℕ, ◌+◌, ◌<◌, ◌==◌, Bool, true, false, not, List, ◌++◌, length, take, Option, Some, None, refl, sym, ap, subst, ◌∙◌, arith}
use Rattle.std.specs.Bool.{if◌then◌else◌}
use Rattle.std.proofs.lemmas.Bool.Decides.{nat_tests}
use Rattle.std.proofs.lemmas.List.Sums.{prefix_len-le-length}
use Rattle.ref_text.specs.Form.{form}
use Rattle.ref_text.specs.Fault.{text_fault, line_of}
use Rattle.ref_text.specs.Reading.{Reader, with_line, with_bytes, judged, at_end, told, lf_at, fed_good, after_good, fed_of, after_feed}
use Rattle.ref_text.specs.declared.why.Why.{Why}
use Rattle.ref_text.specs.declared.events.Event.{Event}
use Rattle.ref_text.specs.declared.events.Event.TheVariants as event
use Rattle.ref_text.specs.declared.events.Fed.{Fed}

-- the line that ends at the first LF of a piece
abbrev pub whole_line : Reader → List ℕ → List ℕ
whole_line r piece = r.begun ++ take (lf_at piece) piece

-- what each event says of the piece, and of the reader behind it
abbrev pub Feeds : Reader → List ℕ → Reader → ℕ → Event → Type 0
Feeds r piece new used event.More = (lf_at piece ≡ length piece) × (new ≡ with_bytes r piece)
Feeds r piece new used event.Line =
    (lf_at piece < length piece) × (used ≡ lf_at piece + 1) × (text_fault r.number r.vars r.over (whole_line r piece) ≡ None)
    × (new ≡ with_line r (line_of (form (whole_line r piece))))
Feeds r piece new used (event.Bad line why) = (lf_at piece < length piece)
    × (text_fault r.number r.vars r.over (whole_line r piece) ≡ Some why)
Feeds r piece new used event.End = ⊥

-- a piece that is fed to a reader which has refused no line
good_feeds : (r : Reader) (piece : List ℕ) → Feeds r piece (after_good r piece) (fed_good r piece).used (fed_good r piece).event
good_feeds r piece = by (lf_at piece == length piece) refl
  where
    below : (lf_at piece == length piece) ≡ false → lf_at piece < length piece
    below e = let le = prefix_len-le-length (λ b. not (b == 10)) piece in grind (arith, nat_tests, le)

    of_fault : (o : Option Why) → text_fault r.number r.vars r.over (whole_line r piece) ≡ o → lf_at piece < length piece →
        Feeds r piece (judged (with_bytes r (take (lf_at piece) piece)) o) (lf_at piece + 1)
        (told r.count (judged (with_bytes r (take (lf_at piece) piece)) o).bad)
    of_fault None is lt = (lt, refl, is, refl)
    of_fault (Some why) is lt = (lt, is)

    by : (b : Bool) → (lf_at piece == length piece) ≡ b →
        (let fed : Fed = if b then record { used = length piece; event = event.More }
        else record { used = lf_at piece + 1; event = told r.count (at_end (with_bytes r (take (lf_at piece) piece))).bad } in
        Feeds r piece (if b then with_bytes r piece else at_end (with_bytes r (take (lf_at piece) piece))) fed.used fed.event)
    by true is = (grind (arith, nat_tests), refl)
    by false is = of_fault (text_fault r.number r.vars r.over (whole_line r piece)) refl (below is)

pub feeds : (r new : Reader) (piece : List ℕ) (fed : Fed) → r.bad ≡ None → fed ≡ fed_of r.bad r piece → new ≡ after_feed r.bad r piece
    → Feeds r piece new fed.used fed.event
feeds r new piece fed good is after =
    let told : fed_good r piece ≡ fed = sym (is ∙ ap (λ (o : Option Why). fed_of o r piece) good) in
    let behind : after_good r piece ≡ new = sym (after ∙ ap (λ (o : Option Why). after_feed o r piece) good) in
    subst (λ (f : Fed). Feeds r piece new f.used f.event) told
    (subst (λ (n : Reader). Feeds r piece n (fed_good r piece).used (fed_good r piece).event) behind (good_feeds r piece))
