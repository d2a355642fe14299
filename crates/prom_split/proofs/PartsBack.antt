-- A word's parts are those that it was made of.
use Rattle.std.proofs.Common.{ℕ, suc, ◌+◌, ◌*◌, ◌/◌, ◌%◌, ◌^◌, ◌<◌, ◌≡◌, refl, ◌∙◌, arith, List, [], ◌∷◌}
use Rattle.std.proofs.Math.Nat.{div-div-eq-div-mul, add-mul-mod_self_left, mod-eq_of_lt}
use Rattle.std.proofs.lemmas.Nat.{pow-add}
use Rattle.mcu_jumps.specs.JumpWord.{ac_of}
use Rattle.mcu_chip.specs.FlagWord.{fc_of}
use Rattle.field_decl.specs.Declaration.{Declaration}
use Rattle.field_decl.specs.declared.field.Field.{Field}
use Rattle.field_decl.proofs.SpreadBits.{high_of}
use Rattle.flow_graph.specs.Microwords.{AreValues}
use Rattle.prom_split.specs.Parts.{FitParts, joined, taken_apart, parts_of, word_by}
use Rattle.prom_split.specs.declared.word_parts.WordParts.{WordParts}
use Rattle.prom_split.proofs.CodesBack.{ac_below, fc_below, jump_back, ctl_back}

-- a digit below w, and what stands above it
low_of : (a w r : ℕ) → a < w → (a + w * r) % w ≡ a
low_of a w r h = add-mul-mod_self_left a w r ∙ mod-eq_of_lt h

-- the values without the first
rest_held : (field : Field) (fields : List Field) (value : ℕ) (values : List ℕ) → AreValues (field ∷ fields) (value ∷ values)
    → AreValues fields values
rest_held field fields value values h = record {
  value_for_each = omega (arith, h.value_for_each);
  held = λ place v f at here. h.held (suc place) v f at here;
}

taken_joined : (fields : List Field) (values : List ℕ) → AreValues fields values → taken_apart fields (joined fields values) ≡ values
unfolding taken_apart joined
taken_joined [] [] h = refl
taken_joined (field ∷ fields) (value ∷ values) h =
    let below : value < 2 ^ field.width = h.held 0 value field refl refl in
    rw (
      low_of value (2 ^ field.width) (joined fields values) below,
      high_of value (2 ^ field.width) (joined fields values) below,
      taken_joined fields values (rest_held field fields value values h),
    )
taken_joined [] (value ∷ values) h = absurd (omega (arith, h.value_for_each))
taken_joined (field ∷ fields) [] h = absurd (omega (arith, h.value_for_each))

-- the common parts, with the K bits and the fields as one number above them
sum_is : (a f u k p r : ℕ) → a + 2 ^ 7 * f + 2 ^ 11 * u + 2 ^ 18 * k + 2 ^ 18 * p * r ≡ a + 2 ^ 7 * f + 2 ^ 11 * u + 2 ^ 18 * (k + p * r)
sum_is a f u k p r = omega arith

ac_is : (a f u x : ℕ) → a < 128 → (a + 2 ^ 7 * f + 2 ^ 11 * u + 2 ^ 18 * x) % 2 ^ 7 ≡ a
ac_is a f u x h = omega arith

fc_is : (a f u x : ℕ) → a < 128 → f < 16 → (a + 2 ^ 7 * f + 2 ^ 11 * u + 2 ^ 18 * x) / 2 ^ 7 % 2 ^ 4 ≡ f
fc_is a f u x h g = omega arith

func_is : (a f u x : ℕ) → a < 128 → f < 16 → u < 128 → (a + 2 ^ 7 * f + 2 ^ 11 * u + 2 ^ 18 * x) / 2 ^ 11 % 2 ^ 7 ≡ u
func_is a f u x h g e = omega arith

above_is : (a f u x : ℕ) → a < 128 → f < 16 → u < 128 → (a + 2 ^ 7 * f + 2 ^ 11 * u + 2 ^ 18 * x) / 2 ^ 18 ≡ x
above_is a f u x h g e = omega arith

fields_are : (a f u k n r : ℕ) → a < 128 → f < 16 → u < 128 → k < 2 ^ n
    → (a + 2 ^ 7 * f + 2 ^ 11 * u + 2 ^ 18 * (k + 2 ^ n * r)) / (2 ^ 18 * 2 ^ n) ≡ r
fields_are a f u k n r h g e p =
    rw (
      ← div-div-eq-div-mul (a + 2 ^ 7 * f + 2 ^ 11 * u + 2 ^ 18 * (k + 2 ^ n * r)) (2 ^ 18) (2 ^ n),
      above_is a f u (k + 2 ^ n * r) h g e,
    ) (high_of k (2 ^ n) r p)

pub parts_back : (decl : Declaration) (parts : WordParts) → FitParts decl parts → parts_of decl (word_by decl parts) ≡ parts
unfolding word_by parts_of
parts_back decl parts h =
    let ac : ac_of parts.jump < 128 = ac_below parts.jump.code parts.jump.operand h.jump in
    let fc : fc_of parts.ctl < 16 = fc_below parts.ctl in
    let rest : ℕ = parts.kbits + 2 ^ decl.kbus * joined decl.fields parts.values in
    rw (
      pow-add 2 18 decl.kbus,
      sum_is (ac_of parts.jump) (fc_of parts.ctl) parts.func parts.kbits (2 ^ decl.kbus) (joined decl.fields parts.values),
      ac_is (ac_of parts.jump) (fc_of parts.ctl) parts.func rest ac,
      fc_is (ac_of parts.jump) (fc_of parts.ctl) parts.func rest ac fc,
      func_is (ac_of parts.jump) (fc_of parts.ctl) parts.func rest ac fc h.func,
      above_is (ac_of parts.jump) (fc_of parts.ctl) parts.func rest ac fc h.func,
      fields_are (ac_of parts.jump) (fc_of parts.ctl) parts.func parts.kbits decl.kbus (joined decl.fields parts.values)
          ac fc h.func h.kbits,
      low_of parts.kbits (2 ^ decl.kbus) (joined decl.fields parts.values) h.kbits,
      taken_joined decl.fields parts.values h.values,
      jump_back parts.jump h.jump,
      ctl_back parts.ctl,
    )
