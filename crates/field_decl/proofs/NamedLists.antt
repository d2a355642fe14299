-- Values that have names, and the list of their names.
use Rattle.std.proofs.Common.{◌≡◌, ℕ, ◌+◌, Bool, not, ◌||◌, cond, ltb, List, [], ◌∷◌, length, Some, None, refl, ap, ◌∙◌}
use Rattle.std.specs.Prelude.{map, position}
use Rattle.std.specs.List.{list_any, position_or_len}
use Rattle.std.specs.Str.{bytes_eq}
use Rattle.std.proofs.lemmas.List.{length-map}

any_of : {X : Type 0} (name_of : X → List ℕ) (name : List ℕ) (items : List X)
    → list_any (bytes_eq name) (map name_of items) ≡ list_any (λ item. bytes_eq name (name_of item)) items
any_of name_of name [] = refl
any_of name_of name (item ∷ items) = ap (λ (b : Bool). bytes_eq name (name_of item) || b) (any_of name_of name items)

-- a name is among the names just where a value has it
pub any_named : {X : Type 0} (name_of : X → List ℕ) (name : List ℕ) (names : List (List ℕ)) (items seen : List X)
    → names ≡ map name_of items → items ≡ seen → list_any (bytes_eq name) names ≡ list_any (λ item. bytes_eq name (name_of item)) seen
any_named {X = X} name_of name names items seen are same =
    ap (list_any (bytes_eq name)) are ∙ any_of name_of name items
    ∙ ap (λ (xs : List X). list_any (λ item. bytes_eq name (name_of item)) xs) same

first_named : {X : Type 0} (name_of : X → List ℕ) (name : List ℕ) (items : List X)
    → position_or_len (bytes_eq name) (map name_of items) ≡ position_or_len (λ item. bytes_eq name (name_of item)) items
first_named name_of name [] = refl
first_named name_of name (item ∷ items) =
    ap (λ (n : ℕ). cond (not (bytes_eq name (name_of item))) (1 + n) 0) (first_named name_of name items)

place_of : {X : Type 0} (name_of : X → List ℕ) (name : List ℕ) (items : List X)
    → position (bytes_eq name) (map name_of items) ≡ position (λ item. bytes_eq name (name_of item)) items
place_of name_of name items =
    ap (λ (k : ℕ). cond (ltb k (length (map name_of items))) (Some k) None) (first_named name_of name items)
    ∙ ap (λ (n : ℕ). cond (ltb (position_or_len (λ item. bytes_eq name (name_of item)) items) n)
    (Some (position_or_len (λ item. bytes_eq name (name_of item)) items)) None) (length-map items name_of)

-- a name's place among the names is that of the value that has it
pub place_named : {X : Type 0} (name_of : X → List ℕ) (name : List ℕ) (names : List (List ℕ)) (items seen : List X)
    → names ≡ map name_of items → items ≡ seen → position (bytes_eq name) names ≡ position (λ item. bytes_eq name (name_of item)) seen
place_named {X = X} name_of name names items seen are same =
    ap (position (bytes_eq name)) are ∙ place_of name_of name items
    ∙ ap (λ (xs : List X). position (λ item. bytes_eq name (name_of item)) xs) same
