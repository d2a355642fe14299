-- What accepted directives declare fits together.
use Rattle.std.proofs.Common.{◌≡◌, ℕ, ◌+◌, ◌*◌, ◌%◌, ◌^◌, ◌≤◌, ◌<◌, true, false, ◌&&◌, List, [], ◌∷◌, ◌++◌, length, Option, Some, refl, subst, ◌∙◌, arith}
use Rattle.std.specs.Prelude.{nat_lt, nat_le, unwrap_or}
use Rattle.std.specs.List.{list_all}
use Rattle.std.proofs.Math.Nat.{pow-le-pow_right, mod-eq_of_lt}
use Rattle.std.proofs.lemmas.Bool.{and_from, le-leb, lt-ltb}
use Rattle.std.proofs.lemmas.List.Elements.{All-push}
use Rattle.std.proofs.lemmas.List.Folds.{list_all-append}
use Rattle.micro_lex.specs.Names.{IsName}
use Rattle.field_decl.specs.declared.field.Field.{Field}
use Rattle.field_decl.specs.Earlier.{Declared, IsSound}
use Rattle.field_decl.specs.Fields.{has_field, is_sized, widths, word_bits}
use Rattle.field_decl.proofs.FieldLemmas.{distinct_push, widths_push, write_is_bit, few_fields}

abbrev Prom : Type 0
Prom = Option (ℕ × ℕ)

-- a field of a new name is given
pub sound_field : (slices kbus : Option ℕ) (fields : List Field) (prom : Prom) (write : Option (List ℕ)) (field : Field)
    → IsSound (record { slices = slices; kbus = kbus; fields = fields; prom = prom; write = write })
    → IsName field.name → has_field fields field.name ≡ false → 1 ≤ field.width → field.width ≤ 32 → field.default < 2 ^ field.width
    → word_bits (unwrap_or kbus 1) fields + field.width ≤ 96
    → IsSound (record { slices = slices; kbus = kbus; fields = fields ++ field ∷ []; prom = prom; write = write })
sound_field slices kbus fields prom write field h name new least most fits narrow =
    let sized : is_sized field ≡ true =
    and_from (nat_le 1 field.width && nat_le field.width 32) (nat_lt field.default (2 ^ field.width))
    (and_from (nat_le 1 field.width) (nat_le field.width 32) (le-leb 1 field.width least) (le-leb field.width 32 most))
    (lt-ltb field.default (2 ^ field.width) fits) in
    record {
      fits = record {
        some_slices = h.fits.some_slices;
        most_slices = h.fits.most_slices;
        some_kbus = h.fits.some_kbus;
        shared = h.fits.shared;
        named = All-push (λ f. IsName f.name) fields field h.fits.named name;
        distinct = distinct_push fields field h.fits.distinct new;
        sized = list_all-append is_sized fields (field ∷ [])
            ∙ and_from (list_all is_sized fields) (is_sized field && true) h.fits.sized (and_from (is_sized field) true sized refl);
        word = omega (arith, narrow, widths_push fields field);
        words = h.fits.words;
        bits = h.fits.bits;
        write_bit = write_is_bit (fields ++ field ∷ []) write;
      };
      ordered = h.ordered;
    }

-- a write field is given
pub sound_write : (slices kbus : Option ℕ) (fields : List Field) (prom : Prom) (write : Option (List ℕ)) (name : List ℕ)
    → IsSound (record { slices = slices; kbus = kbus; fields = fields; prom = prom; write = write })
    → IsSound (record { slices = slices; kbus = kbus; fields = fields; prom = prom; write = Some name })
sound_write slices kbus fields prom write name h = record {
  fits = record {
    some_slices = h.fits.some_slices;
    most_slices = h.fits.most_slices;
    some_kbus = h.fits.some_kbus;
    shared = h.fits.shared;
    named = h.fits.named;
    distinct = h.fits.distinct;
    sized = h.fits.sized;
    word = h.fits.word;
    words = h.fits.words;
    bits = h.fits.bits;
    write_bit = write_is_bit fields (Some name);
  };
  ordered = h.ordered;
}

-- ---- what the numbers of a sound state are

-- the fields leave room for jump, flags, function and one K bit
pub few_widths : (declared : Declared) → IsSound declared → widths declared.fields ≤ 77
few_widths declared h = omega (arith, h.fits.word, h.fits.some_kbus)

-- there are no more fields than bits for them
pub few_declared : (declared : Declared) → IsSound declared → length declared.fields ≤ 77
few_declared declared h = omega (arith, few_widths declared h, few_fields declared.fields h.fits.sized)

-- a default below a power that the code shifts up to is below the power
pub shifted_fits : (default width : ℕ) → width ≤ 32 → default < 1 * 2 ^ width % 340282366920938463463374607431768211456
    → default < 2 ^ width
shifted_fits default width most fits =
    let small : 2 ^ width ≤ 2 ^ 32 = pow-le-pow_right (omega arith) most in
    let one : 1 * 2 ^ width ≡ 2 ^ width = omega arith in
    let same : 1 * 2 ^ width % 340282366920938463463374607431768211456 ≡ 2 ^ width = rw one (mod-eq_of_lt (omega arith)) in
    subst (λ (n : ℕ). default < n) same fits
