-- Values of fields that accepted settings give.
use Rattle.std.proofs.Common.{◌≡◌, ℕ, zero, suc, ◌+◌, ◌<◌, ◌≤◌, ◌^◌, Bool, true, false, not, ◌&&◌, cond, List, [], ◌∷◌, ◌++◌, length, take, get_or, Option, Some, None, refl, sym, ap, subst, ◌∙◌, arith, inl, inr}
use Rattle.std.specs.Prelude.{IfSome, map, slice_get, unwrap_or, option_map, nat_le, nat_lt}
use Rattle.std.specs.List.{list_any, list_all}
use Rattle.std.specs.Str.{bytes_eq}
use Rattle.std.proofs.Math.Nat.{pow-le-pow_right}
use Rattle.std.proofs.lemmas.Bool.{cases_Bool, and_parts, not-true, both_ways, leb-true, leb-false, ltb-true}
use Rattle.std.proofs.lemmas.Cmp.{nat_list_eq_equiv}
use Rattle.std.proofs.lemmas.List.{take_more, length-map, map-append}
use Rattle.std.proofs.lemmas.Option.{get_or_from_slice_get, slice_get-map}
use Rattle.std.proofs.lemmas.Slice.Eq.{bytes_eq-Decides}
use Rattle.field_decl.specs.declared.field.Field.{Field}
use Rattle.field_decl.specs.declared.fault.AsmKind.{AsmKind}
use Rattle.field_decl.specs.declared.fault.AsmKind.TheVariants as kinds
use Rattle.field_decl.specs.Fields.{has_field, is_sized, are_distinct}
use Rattle.flow_graph.specs.Microwords.{AreValues}
use Rattle.micro_asm.specs.declared.setting.Setting.{Setting}
use Rattle.micro_asm.specs.declared.setting.Setting.TheVariants.{Flag, Value}
use Rattle.micro_asm.specs.Settings.{sets_field, flag_refusal, value_refusal, setting_refusal, settings_refusal, or_else, field_named, value_given, field_value, values_given}
use Rattle.micro_asm.proofs.LabelLemmas.{any_at, there}

-- ---- fields

-- of distinct fields, the one at a place is found by its name
pub field_here : (fields : List Field) (place : ℕ) (field : Field) → are_distinct fields ≡ true → slice_get fields place ≡ Some field
    → field_named fields field.name ≡ Some field
field_here [] place field d at = absurd (cc at)
field_here (f ∷ fields) zero field d at =
    let same : f ≡ field = cc in
    subst (λ (g : Field). field_named (f ∷ fields) g.name ≡ Some g) same
    (ap (λ (b : Bool). cond b (Some f) (field_named fields f.name)) (nat_list_eq_equiv.refl f.name))
field_here (f ∷ fields) (suc place) field d at =
    let parts = and_parts (not (has_field fields f.name)) (are_distinct fields) d in
    elim (cases_Bool (bytes_eq field.name f.name)) [
      | inl same ↦
          (let again : has_field fields f.name ≡ true =
          any_at (λ (g : Field). bytes_eq f.name g.name) fields place field at (nat_list_eq_equiv.symm f.name field.name ∙ same) in
          absurd (both_ways (has_field fields f.name) (not-true (has_field fields f.name) parts.0) again))
      | inr differs ↦ ap (λ (b : Bool). cond b (Some f) (field_named fields field.name)) differs
          ∙ field_here fields place field parts.1 at
    ]

sized_at : (fields : List Field) (place : ℕ) (field : Field) → list_all is_sized fields ≡ true → slice_get fields place ≡ Some field
    → is_sized field ≡ true
sized_at [] place field sized at = absurd (cc at)
sized_at (f ∷ fields) zero field sized at = let same : f ≡ field = cc in
    sym (ap is_sized same) ∙ (and_parts (is_sized f) (list_all is_sized fields) sized).0
sized_at (f ∷ fields) (suc place) field sized at =
    sized_at fields place field (and_parts (is_sized f) (list_all is_sized fields) sized).1 at

-- the default of a field fits, and the field has at most 32 bits
pub default_held : (fields : List Field) (place : ℕ) (field : Field) → list_all is_sized fields ≡ true
    → slice_get fields place ≡ Some field → field.default < 2 ^ field.width
default_held fields place field sized at =
    ltb-true field.default (2 ^ field.width)
    (and_parts (nat_le 1 field.width && nat_le field.width 32) (nat_lt field.default (2 ^ field.width))
    (sized_at fields place field sized at)).1

pub narrow_at : (fields : List Field) (place : ℕ) (field : Field) → list_all is_sized fields ≡ true → slice_get fields place ≡ Some field
    → field.width ≤ 32
narrow_at fields place field sized at =
    let size = and_parts (nat_le 1 field.width && nat_le field.width 32) (nat_lt field.default (2 ^ field.width))
    (sized_at fields place field sized at) in
    leb-true field.width 32 (and_parts (nat_le 1 field.width) (nat_le field.width 32) size.0).1

found_narrow : (fields : List Field) (name : List ℕ) (field : Field) → list_all is_sized fields ≡ true
    → field_named fields name ≡ Some field → field.width ≤ 32
found_narrow [] name field sized found = absurd (cc found)
found_narrow (f ∷ fields) name field sized found = elim (cases_Bool (bytes_eq name f.name)) [
  | inl same ↦ narrow_at (f ∷ fields) 0 field sized (sym (ap (λ (b : Bool). cond b (Some f) (field_named fields name)) same) ∙ found)
  | inr differs ↦ found_narrow fields name field (and_parts (is_sized f) (list_all is_sized fields) sized).1
      (sym (ap (λ (b : Bool). cond b (Some f) (field_named fields name)) differs) ∙ found)
]

-- a field that is found by its name has at most 32 bits
pub narrow_found : (fields : List Field) (name : List ℕ) (found : Option Field) → list_all is_sized fields ≡ true
    → found ≡ field_named fields name → IfSome found (λ field. field.width ≤ 32)
narrow_found fields name None sized e = tt
narrow_found fields name (Some field) sized e = found_narrow fields name field sized (sym e)

-- what a field holds is below 2^32
pub held_below : (value width : ℕ) → width ≤ 32 → value < 2 ^ width → value < 4294967296
held_below value width narrow held = let most : 2 ^ width ≤ 2 ^ 32 = pow-le-pow_right (omega arith) narrow in omega (arith, most)

-- ---- settings

no_refusal : (one other : Option AsmKind) → or_else one other ≡ None → (one ≡ None) × (other ≡ None)
no_refusal None other none = (refl, none)
no_refusal (Some kind) other none = absurd (cc none)

-- a value that is not refused is below 2 to the field's width
fits : (twice : Bool) (value : ℕ) (field : Field) → value_refusal twice value (Some field) ≡ None → value < 2 ^ field.width
fits true value field none = absurd (cc none)
fits false value field none = below (nat_le (2 ^ field.width) value) refl none
  where
    below : (b : Bool) → nat_le (2 ^ field.width) value ≡ b → cond b (Some kinds.FieldValue) None ≡ None → value < 2 ^ field.width
    below true e none = absurd (cc none)
    below false e none = leb-false (2 ^ field.width) value e

-- a value that accepted settings give to a field is below 2 to its width
given_held : (fields : List Field) (name : List ℕ) (field : Field) (settings earlier : List Setting) (value : ℕ)
    → field_named fields name ≡ Some field → settings_refusal fields earlier settings ≡ None → value_given name settings ≡ Some value
    → value < 2 ^ field.width
unfolding settings_refusal value_given
given_held fields name field [] earlier value here accepted given = absurd (cc given)
given_held fields name field (Flag flag ∷ later) earlier value here accepted given =
    given_held fields name field later (earlier ++ Flag flag ∷ []) value here
    (no_refusal (flag_refusal earlier flag) (settings_refusal fields (earlier ++ Flag flag ∷ []) later) accepted).1 given
given_held fields name field (Value other n ∷ later) earlier value here accepted given =
    let parts = no_refusal (setting_refusal fields earlier (Value other n))
    (settings_refusal fields (earlier ++ Value other n ∷ []) later) accepted in
    elim (cases_Bool (bytes_eq name other)) [
      | inl same ↦
          (let name_is : name ≡ other = (bytes_eq-Decides name other).0 same in
          let found : field_named fields other ≡ Some field = subst (λ (x : List ℕ). field_named fields x ≡ Some field) name_is here in
          let none : value_refusal (list_any (sets_field other) earlier) n (Some field) ≡ None =
          sym (ap (value_refusal (list_any (sets_field other) earlier) n) found) ∙ parts.0 in
          let value_is : Some n ≡ Some value = sym (ap (λ (b : Bool). cond b (Some n) (value_given name later)) same) ∙ given in
          let same_value : n ≡ value = cc value_is in
          subst (λ (x : ℕ). x < 2 ^ field.width) same_value (fits (list_any (sets_field other) earlier) n field none))
      | inr differs ↦ given_held fields name field later (earlier ++ Value other n ∷ []) value here parts.1
          (sym (ap (λ (b : Bool). cond b (Some n) (value_given name later)) differs) ∙ given)
    ]

pub value_held : (fields : List Field) (settings : List Setting) (place : ℕ) (field : Field) (value : ℕ) → are_distinct fields ≡ true
    → settings_refusal fields [] settings ≡ None → slice_get fields place ≡ Some field → value_given field.name settings ≡ Some value
    → value < 2 ^ field.width
value_held fields settings place field value distinct accepted at given =
    given_held fields field.name field settings [] value (field_here fields place field distinct at) accepted given

-- ---- the values of all fields

field_held : (settings : List Setting) (field : Field) (given : Option ℕ) (value : ℕ) → ((n : ℕ) → given ≡ Some n → n < 2 ^ field.width)
    → field.default < 2 ^ field.width → unwrap_or given field.default ≡ value → value < 2 ^ field.width
field_held settings field None value set default e = subst (λ (n : ℕ). n < 2 ^ field.width) e default
field_held settings field (Some n) value set default e = subst (λ (n : ℕ). n < 2 ^ field.width) e (set n refl)

held_at : (fields : List Field) (settings : List Setting) → list_all is_sized fields ≡ true → are_distinct fields ≡ true
    → settings_refusal fields [] settings ≡ None
    → (place value : ℕ) (field : Field) → slice_get fields place ≡ Some field
    → slice_get (values_given fields settings) place ≡ Some value → value < 2 ^ field.width
held_at fields settings sized distinct accepted place value field at given =
    let e : Some (field_value settings field) ≡ Some value =
    sym (slice_get-map (field_value settings) fields place ∙ ap (option_map (field_value settings)) at) ∙ given in
    let same : field_value settings field ≡ value = cc e in
    field_held settings field (value_given field.name settings) value
    (λ n set. value_held fields settings place field n distinct accepted at set) (default_held fields place field sized at) same

-- each field holds the value that accepted settings give
pub values_held : (fields : List Field) (settings : List Setting) → list_all is_sized fields ≡ true → are_distinct fields ≡ true
    → settings_refusal fields [] settings ≡ None → AreValues fields (values_given fields settings)
values_held fields settings sized distinct accepted = record {
  value_for_each = length-map fields (field_value settings);
  held = held_at fields settings sized distinct accepted;
}

-- one field more
pub values_push : (fields : List Field) (settings : List Setting) (place value : ℕ) (values : List ℕ) → place < length fields
    → Some value ≡ option_map (field_value settings) (slice_get fields place)
    → values ≡ values_given (take place fields) settings → values ++ value ∷ [] ≡ values_given (take (place + 1) fields) settings
values_push fields settings place value values within given so_far =
    let here : (field : Field) × (slice_get fields place ≡ Some field) = there fields place within in
    let e : Some value ≡ Some (field_value settings here.0) = given ∙ ap (option_map (field_value settings)) here.1 in
    let value_is : value ≡ field_value settings here.0 = cc e in
    let field_is : get_or fields place here.0 ≡ here.0 = get_or_from_slice_get fields place here.0 here.0 here.1 in
    let more : take (place + 1) fields ≡ take place fields ++ here.0 ∷ [] = take_more fields place here.0 within
    ∙ ap (λ (f : Field). take place fields ++ f ∷ []) field_is in
    ap (λ (vs : List ℕ). vs ++ value ∷ []) so_far ∙ ap (λ (v : ℕ). values_given (take place fields) settings ++ v ∷ []) value_is
    ∙ sym (map-append (field_value settings) (take place fields) (here.0 ∷ [])) ∙ ap (map (field_value settings)) (sym more)
