-- One of several lists is changed in its place.

use Rattle.std.proofs.Common.{◌≡◌, ℕ, ◌<◌, List, [], length, get_or, set, map, sym, ap, ◌∙◌, arith}
use Rattle.std.proofs.lemmas.List.{map-set, get_or-map, length-map, set-get_or}

-- the list of a place, as what holds it shows it
pub list_shown : {V X : Type 0} (f : V → List X) (vs : List V) (lists : List (List X)) (code : ℕ) (v : V) → map f vs ≡ lists
    → code < length lists → v ≡ get_or vs code v → get_or lists code [] ≡ f v
list_shown f vs lists code v shown lt read =
    let within : code < length vs = omega (arith, ap length shown, length-map vs f) in
    ap (λ l. get_or l code []) (sym shown) ∙ get_or-map f vs code v [] within ∙ ap f (sym read)

-- after a change of what holds the list, the list is changed
pub list_changed : {V X : Type 0} (f : V → List X) (vs : List V) (lists : List (List X)) (code : ℕ) (old new : V) (change : List X
    → List X)
    → map f vs ≡ lists → code < length lists → old ≡ get_or vs code old → f new ≡ change (f old)
    → map f (set vs code new) ≡ set lists code (change (get_or lists code []))
list_changed f vs lists code old new change shown lt read changed =
    map-set f vs code new ∙ ap (λ l. set l code (f new)) shown
    ∙ ap (set lists code) (changed ∙ ap change (sym (list_shown f vs lists code old shown lt read)))

-- nothing is changed where the list stays
pub list_kept : {V X : Type 0} (f : V → List X) (vs : List V) (lists : List (List X)) (code : ℕ) (old new : V) → map f vs ≡ lists
    → code < length lists → old ≡ get_or vs code old → f new ≡ f old → map f (set vs code new) ≡ lists
list_kept f vs lists code old new shown lt read kept =
    list_changed f vs lists code old new (λ xs. xs) shown lt read kept ∙ set-get_or lists code []
