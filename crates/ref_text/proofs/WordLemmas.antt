-- What the words of a line stand for, word by word.
use Rattle.std.proofs.Common.{◌≡◌, ℕ, ◌+◌, ◌<◌, Bool, true, false, cond, List, [], ◌∷◌, ◌++◌, length, drop, get_or, Option, Some, None, refl, sym, ap, ◌∙◌, append_assoc}
use Rattle.std.specs.Prelude.{MatchOption}
use Rattle.std.proofs.lemmas.List.{at_drop_more, append-nil}
use Rattle.ref_text.specs.declared.words.Signed.{Signed}
use Rattle.ref_text.specs.Words.{value_of, with_value, values_of}

-- values and then those of further words
abbrev pub onto : List Signed → Option (List Signed) → Option (List Signed)
onto before None = None
onto before (Some values) = Some (before ++ values)

-- before the first word
pub onto_none : (values : Option (List Signed)) → values ≡ onto [] values
onto_none None = refl
onto_none (Some values) = refl

-- the next word is taken off
pub values_of-drop : (words : List (List ℕ)) (n : ℕ) (word : List ℕ) → (n < length words) × (word ≡ get_or words n word) →
    values_of (drop n words) ≡ with_value (value_of word) (values_of (drop (n + 1) words))
unfolding values_of
values_of-drop words n word h = at_drop_more values_of words n word h.0
    ∙ ap (λ w. with_value (value_of w) (values_of (drop (n + 1) words))) (sym h.1)

-- a word that stands for nothing
pub onto_nothing : (before : List Signed) (word : List ℕ) (rest : Option (List Signed)) → value_of word ≡ None
    → onto before (with_value (value_of word) rest) ≡ None
onto_nothing before word rest e = ap (λ v. onto before (with_value v rest)) e

-- a word that stands for something
pub onto_more : (before : List Signed) (word : List ℕ) (value : Signed) (rest : Option (List Signed)) → value_of word ≡ Some value →
    onto before (with_value (value_of word) rest) ≡ onto (before ++ value ∷ []) rest
onto_more before word value rest e = ap (λ v. onto before (with_value v rest)) e ∙ by rest
  where
    by : (rest : Option (List Signed)) → onto before (with_value (Some value) rest) ≡ onto (before ++ value ∷ []) rest
    by None = refl
    by (Some values) = ap Some (sym (append_assoc before (value ∷ []) values))

-- behind the last word
pub onto_end : (before : List Signed) → onto before (values_of []) ≡ Some before
unfolding values_of
onto_end before = ap Some (append-nil before)

-- a place that was found, or none
pub found_or_none : (b : Bool) (place : ℕ) (r : Option ℕ) → r ≡ cond b (Some place) None
    → MatchOption r (b ≡ false) (λ found. (b ≡ true) × (found ≡ place))
found_or_none true place None e = cc
found_or_none true place (Some found) e = (refl, cc)
found_or_none false place None e = refl
found_or_none false place (Some found) e = cc
