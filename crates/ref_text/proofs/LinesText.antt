-- The text of one line more.
use Rattle.std.proofs.Common.{◌≡◌, ℕ, zero, suc, ◌+◌, List, [], ◌∷◌, ◌++◌, take, Some, refl, sym, ap, ◌∙◌, append_assoc, append-nil, arith}
use Rattle.std.specs.Prelude.{slice_get}
use Rattle.clause_base.specs.declared.line.Line.{Line}
use Rattle.ref_text.specs.Text.{line_text, lines_text}

pub lines_more : (number : ℕ) (lines : List Line) (i : ℕ) (line : Line) → slice_get lines i ≡ Some line
    → lines_text number (take (suc i) lines) ≡ lines_text number (take i lines) ++ line_text (number + i) line
unfolding lines_text
lines_more number [] i line at = cc
lines_more number (first ∷ rest) zero line at =
    let same : first ≡ line = cc in
    let here : number + 0 ≡ number = omega arith in
    append-nil (line_text number first) ∙ ap (line_text number) same ∙ ap (λ (n : ℕ). line_text n line) (sym here)
lines_more number (first ∷ rest) (suc i) line at =
    let next : number + 1 + i ≡ number + suc i = omega arith in
    ap (λ (text : List ℕ). line_text number first ++ text) (lines_more (number + 1) rest i line at)
    ∙ sym (append_assoc (line_text number first) (lines_text (number + 1) (take i rest)) (line_text (number + 1 + i) line))
    ∙ ap (λ (n : ℕ). line_text number first ++ lines_text (number + 1) (take i rest) ++ line_text n line) next

pub lines_none : (number : ℕ) → lines_text number [] ≡ []
unfolding lines_text
lines_none number = refl
