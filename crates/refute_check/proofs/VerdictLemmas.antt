-- The answer where a text ends.
use Rattle.std.proofs.Common.{◌≡◌, ℕ, ◌+◌, ◌==◌, Bool, true, false, not, List, [], ◌∷◌, length, Option, None, refl, sym, ap, ◌∙◌, arith}
use Rattle.std.proofs.lemmas.Bool.Decides.{nat_tests}
use Rattle.ref_text.specs.Reading.{at_text_end}
use Rattle.ref_text.specs.declared.why.Why.{Why}
use Rattle.ref_text.specs.declared.why.Why.TheVariants as why
use Rattle.ref_text.specs.declared.events.Event.{Event}
use Rattle.ref_text.specs.declared.events.Event.TheVariants as event
use Rattle.refute_check.specs.Check.{has_begun, ended, verdict_of}
use Rattle.refute_check.specs.declared.checked.Checked.TheVariants as checked

-- a list with a byte is begun
some_begun : (b : ℕ) (bs : List ℕ) → has_begun (b ∷ bs) ≡ true
some_begun b bs = let no : (length (b ∷ bs) == 0) ≡ false = grind (arith, nat_tests) in ap not no

-- a line is begun
pub begun_bad : (n count : ℕ) (over : Bool) (bad : Option Why) (begun : List ℕ) (line : ℕ) (w : Why) → n ≡ count → bad ≡ None
    → event.Bad line w ≡ at_text_end n bad begun → checked.Rejected line w ≡ verdict_of count over None (has_begun begun)
begun_bad n count over bad begun line w same none is = by begun (is ∙ ap (λ (o : Option Why). at_text_end n o begun) none)
  where
    by : (bs : List ℕ) → event.Bad line w ≡ at_text_end n None bs → checked.Rejected line w ≡ verdict_of count over None (has_begun bs)
    by [] e = cc
    by (b ∷ bs) e =
        let l : line ≡ count + 1 = let m : line ≡ n + 1 = cc in omega (arith, m, same) in
        let t : w ≡ why.Text = cc in
        ap (λ (k : ℕ). checked.Rejected k w) l ∙ ap (λ (v : Why). checked.Rejected (count + 1) v) t
        ∙ ap (λ (x : Bool). verdict_of count over None x) (sym (some_begun b bs))

-- no line is begun
pub not_begun : (n count : ℕ) (over : Bool) (bad : Option Why) (begun : List ℕ) (e : Event) → bad ≡ None → e ≡ at_text_end n bad begun
    → ((line : ℕ) (w : Why) → e ≡ event.Bad line w → ⊥) → ended count over ≡ verdict_of count over None (has_begun begun)
not_begun n count over bad begun e none is not_bad = by begun (is ∙ ap (λ (o : Option Why). at_text_end n o begun) none)
  where
    by : (bs : List ℕ) → e ≡ at_text_end n None bs → ended count over ≡ verdict_of count over None (has_begun bs)
    by [] told = refl
    by (b ∷ bs) told = absurd (not_bad (n + 1) why.Text told)
