-- The text of a layout is short.
use Rattle.std.proofs.Common.{ℕ, zero, suc, ◌≡◌, ◌+◌, ◌*◌, ◌^◌, ◌≤◌, ◌<◌, ◌||◌, true, List, [], ◌∷◌, ◌++◌, length, Option, Some, None, refl, subst, arith, length-append}
use Rattle.std.specs.Prelude.{All, decimal, codes, ◌==◌, slice_get}
use Rattle.std.specs.List.{list_all}
use Rattle.std.proofs.lemmas.Bool.{and_parts}
use Rattle.std.proofs.lemmas.Fmt.{length-decimal-le}
use Rattle.std.proofs.Math.Nat.{pow-le-pow_right}
use Rattle.field_decl.specs.declared.field.Field.{Field}
use Rattle.field_decl.specs.Declaration.{Declaration}
use Rattle.field_decl.specs.Earlier.{FitsTogether}
use Rattle.field_decl.specs.Fields.{is_sized}
use Rattle.field_decl.specs.Spaced.{Run, after_space, spaced}
use Rattle.field_decl.specs.LayoutText.{printed, name_run, number_run, slices_runs, kbus_runs, field_runs, prom_runs, fields_text, write_line, write_text, layout_text}
use Rattle.field_decl.proofs.FieldLemmas.{few_fields}
use Rattle.field_decl.proofs.ReadAgain.{Sized, sizes_of}

-- one run more
run_length : (run : Run) (runs : List Run) → length (after_space (run ∷ runs)) ≡ 1 + length run.0 + length (after_space runs)
run_length run runs = omega (arith, length-append run.0 (after_space runs))

line_length : (run : Run) (runs : List Run) → length (printed (run ∷ runs)) ≡ length run.0 + length (after_space runs) + 1
line_length run runs =
    omega (arith, length-append (spaced (run ∷ runs)) (10 ∷ []), length-append run.0 (after_space runs))

number_short : (n : ℕ) → n < 2 ^ 32 → length (decimal n) ≤ 10
number_short n less = length-decimal-le 10 n (omega arith) (omega (arith, less)) (omega (arith, less))

-- a line of a word and a number
number_line : (word : List ℕ) (n : ℕ) → n < 2 ^ 32 → length (printed (name_run word ∷ number_run n ∷ [])) ≤ length word + 12
number_line word n less =
    omega (arith, line_length (name_run word) (number_run n ∷ []), run_length (number_run n) [], number_short n less)

prom_length : (words bits : ℕ) → words < 2 ^ 32 → bits < 2 ^ 32 → length (printed (prom_runs words bits)) ≤ 27
prom_length words bits a b =
    omega (
      arith,
      line_length (name_run (codes "prom")) (number_run words ∷ number_run bits ∷ []),
      run_length (number_run words) (number_run bits ∷ []),
      run_length (number_run bits) [],
      number_short words a,
      number_short bits b,
    )

-- a name has at most 32 bytes
abbrev has_short_name : Field → Type 0
has_short_name field = length field.name ≤ 32

field_length : (field : Field) → has_short_name field → Sized field → length (printed (field_runs field)) ≤ 61
field_length field name s =
    let power : 2 ^ field.width ≤ 2 ^ 32 = pow-le-pow_right (omega arith) s.most in
    omega (
      arith,
      line_length (name_run (codes "field")) (name_run field.name ∷ number_run field.width ∷ number_run field.default ∷ []),
      run_length (name_run field.name) (number_run field.width ∷ number_run field.default ∷ []),
      run_length (number_run field.width) (number_run field.default ∷ []),
      run_length (number_run field.default) [],
      number_short field.width (omega (arith, s.most)),
      number_short field.default (omega (arith, s.fits, power)),
      name,
    )

fields_length : (fields : List Field) → All has_short_name fields → list_all is_sized fields ≡ true
    → length (fields_text fields) ≤ 61 * length fields
fields_length [] named sized = omega arith
fields_length (field ∷ fields) named sized =
    let parts = and_parts (is_sized field) (list_all is_sized fields) sized in
    let here = field_length field (named 0 field (omega arith)) (sizes_of field parts.0) in
    let rest = fields_length fields (λ k d less. named (suc k) d (omega (arith, less))) parts.1 in
    omega (arith, length-append (printed (field_runs field)) (fields_text fields), here, rest)

named_at : (fields : List Field) (place : ℕ) (field : Field) → All has_short_name fields → slice_get fields place ≡ Some field
    → has_short_name field
named_at [] place field all e = absurd cc
named_at (f ∷ fields) zero field all e = let same : f ≡ field = cc in subst (has_short_name) same (all 0 f (omega arith))
named_at (f ∷ fields) (suc place) field all e = named_at fields place field (λ k d less. all (suc k) d (omega (arith, less))) e

write_length : (fields : List Field) (place : ℕ) (found : Option Field) → All has_short_name fields → slice_get fields place ≡ found
    → length (write_line found) ≤ 39
write_length fields place None named e = omega arith
write_length fields place (Some field) named e =
    omega (
      arith,
      line_length (name_run (codes "write")) (name_run field.name ∷ []),
      run_length (name_run field.name) [],
      named_at fields place field named e,
    )

write_short : (write : Option ℕ) (fields : List Field) → All has_short_name fields → length (write_text write fields) ≤ 39
write_short None fields named = omega arith
write_short (Some place) fields named = write_length fields place (slice_get fields place) named refl

few_bits : (bits : ℕ) → (bits == 4 || bits == 8) ≡ true → bits < 2 ^ 32
few_bits bits h = grind arith

-- the text of a layout has at most 78 field lines of 61 bytes
pub layout_short : (d : Declaration) → FitsTogether d → length (layout_text d) ≤ 65536
unfolding layout_text
layout_short d h =
    let named : All has_short_name d.fields = λ k field less. (h.named k field less).short in
    let a = number_line (codes "slices") d.slices (omega (arith, h.most_slices)) in
    let b = number_line (codes "kbus") d.kbus (omega (arith, h.word)) in
    let f = fields_length d.fields named h.sized in
    let few = few_fields d.fields h.sized in
    let p = prom_length d.prom_words d.prom_bits (omega (arith, h.words)) (few_bits d.prom_bits h.bits) in
    let w = write_short d.write d.fields named in
    let tail : List ℕ = write_text d.write d.fields in
    let proms : List ℕ = printed (prom_runs d.prom_words d.prom_bits) ++ tail in
    let one = length-append (printed (slices_runs d.slices)) (printed (kbus_runs d.kbus) ++ (fields_text d.fields ++ proms)) in
    let two = length-append (printed (kbus_runs d.kbus)) (fields_text d.fields ++ proms) in
    let three = length-append (fields_text d.fields) proms in
    let four = length-append (printed (prom_runs d.prom_words d.prom_bits)) tail in
    omega (arith, a, b, f, few, p, w, one, two, three, four, h.word)
