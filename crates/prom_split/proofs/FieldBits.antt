-- The user fields in one number, one field at a time.
use Rattle.std.proofs.Common.{ℕ, zero, suc, ◌+◌, ◌*◌, ◌/◌, ◌%◌, ◌^◌, ◌<◌, ◌≤◌, ◌≡◌, true, ◌&&◌, refl, sym, ap, subst, ◌∙◌, arith, List, [], ◌∷◌, ◌++◌, length, drop, get_or, take, Some, slice_get, append_assoc, add-one}
use Rattle.std.specs.Prelude.{nat_lt, nat_le}
use Rattle.std.specs.List.{list_all}
use Rattle.std.proofs.Math.Seq.{drop-cons}
use Rattle.std.proofs.lemmas.Bool.{and_parts, leb-true, ltb-true}
use Rattle.std.proofs.lemmas.List.{drop_all, append-nil, length-map, length-take}
use Rattle.std.proofs.lemmas.List.Sums.{sum_by-cons}
use Rattle.std.proofs.lemmas.Option.{slice_get_within, slice_get-get_or, get_or_from_slice_get}
use Rattle.std.proofs.lemmas.Nat.{pow-add}
use Rattle.std.proofs.Math.Nat.{mod-eq_of_lt, pow-le-pow_right}
use Rattle.field_decl.specs.declared.field.Field.{Field}
use Rattle.field_decl.specs.Fields.{is_sized, widths}
use Rattle.flow_graph.specs.Microwords.{AreValues}
use Rattle.flow_graph.specs.Order.{defaults_of}
use Rattle.field_decl.proofs.FieldLemmas.{few_fields}
use Rattle.field_decl.proofs.SpreadBits.{bound}
use Rattle.prom_split.specs.Parts.{joined, taken_apart}

-- the rest of a list begins with the element at its place
pub drop_at : {X : Type 0} → (xs : List X) (i : ℕ) (x : X) → slice_get xs i ≡ Some x → drop i xs ≡ x ∷ drop (suc i) xs
drop_at xs i x h = drop-cons xs i x (slice_get_within xs i x h) ∙ ap (λ y. y ∷ drop (suc i) xs) (get_or_from_slice_get xs i x x h)

-- what is_sized says
pub record Sized (field : Field) : Type 0 where
  pub some : 1 ≤ field.width
  pub most : field.width ≤ 32
  pub default : field.default < 2 ^ field.width

sized_is : (field : Field) → is_sized field ≡ true → Sized field
sized_is field h =
    let sized = and_parts (nat_le 1 field.width && nat_le field.width 32) (nat_lt field.default (2 ^ field.width)) h in
    let wide = and_parts (nat_le 1 field.width) (nat_le field.width 32) sized.0 in
    record {
      some = leb-true 1 field.width wide.0;
      most = leb-true field.width 32 wide.1;
      default = ltb-true field.default (2 ^ field.width) sized.1;
    }

-- each of the fields is sized
pub sized_at : (fields : List Field) (place : ℕ) (field : Field) → list_all is_sized fields ≡ true → slice_get fields place ≡ Some field
    → Sized field
sized_at [] place field h at = absurd (cc at)
sized_at (f ∷ fields) zero field h at =
    let same : f ≡ field = cc in
    let P : Field → Type 0 = λ x. Sized x in
    subst P same (sized_is f (and_parts (is_sized f) (list_all is_sized fields) h).0)
sized_at (f ∷ fields) (suc place) field h at = sized_at fields place field (and_parts (is_sized f) (list_all is_sized fields) h).1 at

-- ---- joining, from the last field down

-- the number is that of the values from a place on
pub record Turned (fields : List Field) (values : List ℕ) (place number : ℕ) : Type 0 where
  pub value : number ≡ joined (drop place fields) (drop place values)
  pub below : number < 2 ^ widths (drop place fields)

widths_at : (fields : List Field) (place : ℕ) (field : Field) → slice_get fields place ≡ Some field
    → widths (drop place fields) ≡ field.width + widths (drop (suc place) fields)
widths_at fields place field at = ap widths (drop_at fields place field at)
    ∙ sum_by-cons (λ (f : Field). f.width) field (drop (suc place) fields)

widths_drop : (fields : List Field) (place : ℕ) → widths (drop place fields) ≤ widths fields
widths_drop [] zero = omega arith
widths_drop [] (suc place) = omega arith
widths_drop (f ∷ fields) zero = omega arith
widths_drop (f ∷ fields) (suc place) = omega (arith, widths_drop fields place, sum_by-cons (λ (g : Field). g.width) f fields)

-- the value of one more field
pub joined_turn : (fields : List Field) (values : List ℕ) (place number : ℕ) (field : Field) (value : ℕ)
    → AreValues fields values → widths fields ≤ 96 → slice_get fields place ≡ Some field → slice_get values place ≡ Some value
    → Turned fields values (suc place) number
    → Turned fields values place (number * 2 ^ field.width % 340282366920938463463374607431768211456 + value)
unfolding joined
joined_turn fields values place number field value held narrow at here t =
    let w : ℕ = field.width in
    let rest : ℕ = widths (drop (suc place) fields) in
    let all : widths (drop place fields) ≡ w + rest = widths_at fields place field at in
    let less : widths (drop place fields) ≤ widths fields = widths_drop fields place in
    let power : 2 ^ widths (drop place fields) ≡ 2 ^ w * 2 ^ rest = ap (λ (n : ℕ). 2 ^ n) all ∙ pow-add 2 w rest in
    let below : number * 2 ^ w + value < 2 ^ w * 2 ^ rest =
    bound number value (2 ^ w) (2 ^ rest) t.below (held.held place value field at here) in
    let narrower : widths (drop place fields) ≤ 96 = omega arith in
    let small : 2 ^ widths (drop place fields) ≤ 2 ^ 96 = pow-le-pow_right (omega arith) narrower in
    let whole : number * 2 ^ w % 340282366920938463463374607431768211456 ≡ number * 2 ^ w = mod-eq_of_lt (omega arith) in
    record {
      value = rw (whole, drop_at fields place field at, drop_at values place value here, ← t.value) (omega arith);
      below = rw whole (omega arith);
    }

-- such a number fits
pub turned_fits : (fields : List Field) (values : List ℕ) (place number : ℕ) → widths fields ≤ 96 → Turned fields values place number
    → number < 340282366920938463463374607431768211456
turned_fits fields values place number narrow t =
    let less : widths (drop place fields) ≤ widths fields = widths_drop fields place in
    let narrower : widths (drop place fields) ≤ 96 = omega arith in
    let small : 2 ^ widths (drop place fields) ≤ 2 ^ 96 = pow-le-pow_right (omega arith) narrower in
    omega (arith, t.below)

-- one turn of the loop
pub joined_step : (fields : List Field) (values : List ℕ) (place here number : ℕ) (field : Field) (width value : ℕ)
    → AreValues fields values → widths fields ≤ 96 → slice_get fields here ≡ Some field → place ≡ suc here → width ≡ field.width
    → value ≡ get_or values here 0 → Turned fields values place number
    → Turned fields values here (number * 2 ^ width % 340282366920938463463374607431768211456 + value)
joined_step fields values place here number field width value held narrow at e w v t =
    let within : here < length values = omega (arith, slice_get_within fields here field at, held.value_for_each) in
    let before : Turned fields values (suc here) number = subst (λ (i : ℕ). Turned fields values i number) e t in
    rw (w, v) (joined_turn fields values here number field (get_or values here 0) held narrow at (slice_get-get_or values here 0 within)
    before)

-- past the last field there is nothing
pub turned_none : (fields : List Field) (values : List ℕ) (place : ℕ) → place ≡ length fields → Turned fields values place 0
unfolding joined
turned_none fields values place e =
    record { value = rw (drop_all place fields (omega arith)); below = rw (drop_all place fields (omega arith)) (omega arith) }

-- ---- taking apart, from the first field up

-- the values so far, and those that the rest of the number holds
pub record Taken (fields : List Field) (number : ℕ) (values : List ℕ) (place rest : ℕ) : Type 0 where
  pub count : length values ≡ place
  pub taken : taken_apart fields number ≡ values ++ taken_apart (drop place fields) rest

pub taken_turn : (fields : List Field) (number : ℕ) (values : List ℕ) (place rest : ℕ) (field : Field)
    → slice_get fields place ≡ Some field → Taken fields number values place rest
    → Taken fields number (values ++ rest % 2 ^ field.width ∷ []) (place + 1) (rest / 2 ^ field.width)
unfolding taken_apart
taken_turn fields number values place rest field at t = record {
  count = omega (arith, t.count, length_push values (rest % 2 ^ field.width));
  taken = t.taken ∙ rw (append_assoc, add-one, drop_at fields place field at);
}
  where
    length_push : (xs : List ℕ) (x : ℕ) → length (xs ++ x ∷ []) ≡ length xs + 1
    length_push [] x = refl
    length_push (y ∷ xs) x = omega (arith, length_push xs x)

pub taken_end : (fields : List Field) (number : ℕ) (values : List ℕ) (place rest : ℕ) → length fields ≤ place
    → Taken fields number values place rest → values ≡ taken_apart fields number
unfolding taken_apart
taken_end fields number values place rest h t = sym (t.taken ∙ rw (drop_all place fields h) (append-nil values))

-- the lowest bits of a number, as many as a field has, fit
pub low_fits : (number width : ℕ) → width ≤ 32 → number < 2 ^ width → number < 4294967296
low_fits number width most below =
    let small : 2 ^ width ≤ 2 ^ 32 = pow-le-pow_right (omega arith) most in
    omega arith

-- ---- the defaults

-- the defaults so far are few
pub defaults_few : (fields : List Field) (place : ℕ) (values : List ℕ) → list_all is_sized fields ≡ true → widths fields ≤ 78
    → place < length fields → values ≡ defaults_of (take place fields) → length values < 80
defaults_few fields place values sized narrow within e =
    omega (
      arith,
      ap length e,
      length-map (take place fields) (λ (f : Field). f.default),
      length-take place fields,
      few_fields fields sized,
    )

defaults_length : (fields : List Field) → length (defaults_of fields) ≡ length fields
defaults_length [] = refl
defaults_length (f ∷ fields) = omega (arith, defaults_length fields)

defaults_at : (fields : List Field) (place value : ℕ) (field : Field) → slice_get fields place ≡ Some field
    → slice_get (defaults_of fields) place ≡ Some value → value ≡ field.default
defaults_at [] place value field at here = absurd (cc at)
defaults_at (f ∷ fields) zero value field at here = cc
defaults_at (f ∷ fields) (suc place) value field at here = defaults_at fields place value field at here

-- the defaults are values of the fields
pub defaults_held : (fields : List Field) → list_all is_sized fields ≡ true → AreValues fields (defaults_of fields)
defaults_held fields sized = record {
  value_for_each = defaults_length fields;
  held = λ place value field at here. let e = defaults_at fields place value field at here in
      omega (arith, e, (sized_at fields place field sized at).default);
}
