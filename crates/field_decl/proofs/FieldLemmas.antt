-- Lists of fields: names, widths, and the write field.
use Rattle.std.proofs.Common.{◌≡◌, ℕ, zero, suc, ◌+◌, ◌≤◌, ◌<◌, Bool, true, false, not, ◌&&◌, ◌||◌, cond, List, [], ◌∷◌, ◌++◌, length, get_or, Option, Some, None, refl, sym, ap, subst, ◌∙◌, arith, eqb, ltb, inl, inr}
use Rattle.std.specs.Prelude.{slice_get, option_and_then, nat_lt, nat_le, ◌^◌}
use Rattle.std.specs.List.{list_any, list_all, position_or_len}
use Rattle.std.specs.Str.{bytes_eq}
use Rattle.std.proofs.lemmas.Bool.{cases_Bool, and_parts, and_from, or_parts, or_from, not-true, not-false, not_from_false, leb-true, lt-ltb, ltb-true, or_left, or_right, both_ways, and_left}
use Rattle.std.proofs.lemmas.Cmp.{nat_list_eq_equiv}
use Rattle.std.proofs.lemmas.List.Folds.{list_any-append}
use Rattle.std.proofs.lemmas.List.Sums.{sum_by-append, sum_by-cons, prefix_len_stops}
use Rattle.field_decl.specs.declared.field.Field.{Field}
use Rattle.field_decl.specs.Fields.{has_field, is_sized, are_distinct, widths, can_write, write_place, is_one_bit, is_write}

-- one more field of a new name leaves the names distinct
pub distinct_push : (fields : List Field) (field : Field) → are_distinct fields ≡ true → has_field fields field.name ≡ false
    → are_distinct (fields ++ field ∷ []) ≡ true
distinct_push [] field d new = refl
distinct_push (f ∷ fields) field d new =
    let old = and_parts (not (has_field fields f.name)) (are_distinct fields) d in
    let other = or_parts (bytes_eq field.name f.name) (has_field fields field.name) new in
    let differs : bytes_eq f.name field.name ≡ false = nat_list_eq_equiv.symm f.name field.name ∙ other.0 in
    let none : has_field (fields ++ field ∷ []) f.name ≡ false =
    list_any-append (λ g. bytes_eq f.name g.name) fields (field ∷ [])
    ∙ or_from (has_field fields f.name) (bytes_eq f.name field.name || false) (not-true (has_field fields f.name) old.0)
    (or_from (bytes_eq f.name field.name) false differs refl) in
    and_from (not (has_field (fields ++ field ∷ []) f.name)) (are_distinct (fields ++ field ∷ []))
    (not_from_false (has_field (fields ++ field ∷ []) f.name) none) (distinct_push fields field old.1 other.1)

-- of distinct names, none before a field is its own
pub distinct_before : (before : List Field) (field : Field) (after : List Field) → are_distinct (before ++ field ∷ after) ≡ true
    → has_field before field.name ≡ false
distinct_before [] field after d = refl
distinct_before (f ∷ before) field after d =
    let parts = and_parts (not (has_field (before ++ field ∷ after) f.name)) (are_distinct (before ++ field ∷ after)) d in
    let none : (has_field before f.name || has_field (field ∷ after) f.name) ≡ false =
    sym (list_any-append (λ g. bytes_eq f.name g.name) before (field ∷ after))
    ∙ not-true (has_field (before ++ field ∷ after) f.name) parts.0 in
    let rest = or_parts (has_field before f.name) (has_field (field ∷ after) f.name) none in
    let here = or_parts (bytes_eq f.name field.name) (has_field after f.name) rest.1 in
    or_from (bytes_eq field.name f.name) (has_field before field.name) (nat_list_eq_equiv.symm field.name f.name ∙ here.0)
    (distinct_before before field after parts.1)

-- the bits with one field more
pub widths_push : (fields : List Field) (field : Field) → widths (fields ++ field ∷ []) ≡ widths fields + field.width
widths_push fields field = omega (arith, sum_by-append (λ f. f.width) fields (field ∷ []), sum_by-cons (λ f. f.width) field [])

-- a field has a bit at least, so there are no more fields than bits
pub few_fields : (fields : List Field) → list_all is_sized fields ≡ true → length fields ≤ widths fields
few_fields [] h = omega arith
few_fields (field ∷ fields) h =
    let parts = and_parts (is_sized field) (list_all is_sized fields) h in
    let sized = and_parts (nat_le 1 field.width && nat_le field.width 32) (nat_lt field.default (2 ^ field.width)) parts.0 in
    let wide = and_parts (nat_le 1 field.width) (nat_le field.width 32) sized.0 in
    omega (arith, few_fields fields parts.1, leb-true 1 field.width wide.0, sum_by-cons (λ f. f.width) field fields)

abbrev no_field : Field
no_field = record { name = []; width = 0; default = 0 }

-- the field at a place in range
read_at : (fields : List Field) (place : ℕ) → place < length fields → slice_get fields place ≡ Some (get_or fields place no_field)
read_at [] place lt = absurd (omega arith)
read_at (f ∷ fields) zero lt = refl
read_at (f ∷ fields) (suc place) lt = read_at fields place (omega arith)

-- the place of a write field holds a field of one bit
placed_bit : (name : List ℕ) (fields : List Field) (within : Bool)
    → ltb (position_or_len (can_write name) fields) (length fields) ≡ within
    → is_write (cond within (Some (position_or_len (can_write name) fields)) None) fields ≡ true
placed_bit name fields false e = refl
placed_bit name fields true e =
    let place : ℕ = position_or_len (can_write name) fields in
    let lt : place < length fields = ltb-true place (length fields) e in
    let passes : not (can_write name (get_or fields place no_field)) ≡ false =
    prefix_len_stops (λ f. not (can_write name f)) fields no_field lt in
    let bit = and_parts (bytes_eq name (get_or fields place no_field).name) (eqb (get_or fields place no_field).width 1)
    (not-false (can_write name (get_or fields place no_field)) passes) in
    ap is_one_bit (read_at fields place lt) ∙ bit.1

-- the write field is one bit wide
pub write_is_bit : (fields : List Field) (write : Option (List ℕ)) → is_write (option_and_then (write_place fields) write) fields ≡ true
write_is_bit fields None = refl
write_is_bit fields (Some name) = placed_bit name fields (ltb (position_or_len (can_write name) fields) (length fields)) refl

-- the field at a place is found by its name, where names are distinct
has_at : (fields : List Field) (place : ℕ) (field : Field) → slice_get fields place ≡ Some field → has_field fields field.name ≡ true
has_at [] place field e = absurd cc
has_at (f ∷ fields) zero field e =
    let same : f ≡ field = cc in
    subst (λ (g : Field). (bytes_eq g.name f.name || has_field fields g.name) ≡ true) same
    (or_left (bytes_eq f.name f.name) (has_field fields f.name) (nat_list_eq_equiv.refl f.name))
has_at (f ∷ fields) (suc place) field e =
    or_right (bytes_eq field.name f.name) (has_field fields field.name) (has_at fields place field e)

-- no field before it can be the write field of its name
pub before_place : (fields : List Field) (place : ℕ) (field : Field) → are_distinct fields ≡ true → slice_get fields place ≡ Some field
    → eqb field.width 1 ≡ true → position_or_len (can_write field.name) fields ≡ place
before_place [] place field d e bit = absurd cc
before_place (f ∷ fields) zero field d e bit =
    let same : f ≡ field = cc in
    subst (λ (g : Field). eqb g.width 1 ≡ true → position_or_len (can_write g.name) (f ∷ fields) ≡ 0) same
    (λ b. let yes : can_write f.name f ≡ true = and_from (bytes_eq f.name f.name) (eqb f.width 1) (nat_list_eq_equiv.refl f.name) b in
    rw yes refl) bit
before_place (f ∷ fields) (suc place) field d e bit =
    let parts = and_parts (not (has_field fields f.name)) (are_distinct fields) d in
    let more = before_place fields place field parts.1 e bit in
    elim (cases_Bool (bytes_eq field.name f.name)) [
      | inl same ↦
          (let found : has_field fields f.name ≡ true = sym (alike field.name f.name fields same) ∙ has_at fields place field e in
          absurd (both_ways (has_field fields f.name) (not-true (has_field fields f.name) parts.0) found))
      | inr differs ↦ rw (and_left (bytes_eq field.name f.name) (eqb f.width 1) differs) (omega (arith, more))
    ]
  where
    alike : (a b : List ℕ) (fields : List Field) → bytes_eq a b ≡ true → has_field fields a ≡ has_field fields b
    alike a b [] same = refl
    alike a b (g ∷ fields) same = ap (λ (x : Bool). x || has_field fields a) (nat_list_eq_equiv.congr a b g.name same)
        ∙ ap (λ (x : Bool). bytes_eq b g.name || x) (alike a b fields same)

-- a place with a field is in range
length_past : (fields : List Field) (place : ℕ) (field : Field) → slice_get fields place ≡ Some field → place < length fields
length_past [] place field e = absurd cc
length_past (f ∷ fields) zero field e = omega arith
length_past (f ∷ fields) (suc place) field e = let more = length_past fields place field e in omega (arith, more)

-- the write field is found by its name
pub place_found : (fields : List Field) (place : ℕ) (field : Field) → are_distinct fields ≡ true → slice_get fields place ≡ Some field
    → eqb field.width 1 ≡ true → write_place fields field.name ≡ Some place
place_found fields place field d e bit =
    rw (before_place fields place field d e bit, lt-ltb place (length fields) (length_past fields place field e)) refl

-- a field of one bit can be the write field
pub can_be_written : (fields : List Field) (place : ℕ) (field : Field) → slice_get fields place ≡ Some field → eqb field.width 1 ≡ true
    → list_any (can_write field.name) fields ≡ true
can_be_written [] place field e bit = absurd cc
can_be_written (f ∷ fields) zero field e bit =
    let same : f ≡ field = cc in
    subst (λ (g : Field). eqb g.width 1 ≡ true → (can_write g.name f || list_any (can_write g.name) fields) ≡ true) same
    (λ b. or_left (can_write f.name f) (list_any (can_write f.name) fields)
    (and_from (bytes_eq f.name f.name) (eqb f.width 1) (nat_list_eq_equiv.refl f.name) b)) bit
can_be_written (f ∷ fields) (suc place) field e bit =
    or_right (can_write field.name f) (list_any (can_write field.name) fields) (can_be_written fields place field e bit)
