use Rattle.std.proofs.Common.{ℕ, List, ◌+◌, ◌*◌, ◌^◌, ◌<◌, ◌≡◌, ap, subst, ◌∙◌, arith}
use Rattle.field_decl.specs.declared.field.Field.{Field}
use Rattle.field_decl.specs.Fields.{widths}
use Rattle.prom_split.specs.Parts.{joined}
use Rattle.prom_split.proofs.WordSum.{above_small, word_is, word_below}
use Rattle.prom_split.proofs.word_parts.word_from.Goals as goal

pub overflow_add-above : goal.overflow_add-above
overflow_add-above c =
    let decl = c.args.decl.now in
    let low : c.joined_values-fields.result < 2 ^ widths decl.fields =
    subst (λ (fields : List Field). c.joined_values-fields.result < 2 ^ widths fields)
    c.as_slice.ensures c.joined_values-fields.ensures.below in
    omega (
      arith,
      c.from.ensures,
      above_small c.joined_values-fields.result c.args.kbits decl.kbus (widths decl.fields) low c.requires.kbits decl.valid.word,
    )

pub returns-clause-word : goal.returns-clause-word
returns-clause-word c =
    let decl = c.args.decl.now in
    let low : c.joined_values-fields.result < 2 ^ widths decl.fields =
    subst (λ (fields : List Field). c.joined_values-fields.result < 2 ^ widths fields)
    c.as_slice.ensures c.joined_values-fields.ensures.below in
    let values : c.joined_values-fields.result ≡ joined decl.fields c.args.values.now = c.joined_values-fields.ensures.number
    ∙ ap (λ (fields : List Field). joined fields c.args.values.now) c.as_slice.ensures in
    rw (c.from.ensures, c.from-2.ensures)
    (word_is c.joined_values-fields.result c.args.kbits decl.kbus (widths decl.fields)
    c.args.common low c.requires.kbits c.requires.common decl.valid.word
    ∙ ap (λ (number : ℕ). c.args.common + 262144 * c.args.kbits + 2 ^ (18 + decl.kbus) * number) values)

pub returns-clause-below : goal.returns-clause-below
returns-clause-below c =
    let decl = c.args.decl.now in
    let low : c.joined_values-fields.result < 2 ^ widths decl.fields =
    subst (λ (fields : List Field). c.joined_values-fields.result < 2 ^ widths fields)
    c.as_slice.ensures c.joined_values-fields.ensures.below in
    rw (c.from.ensures, c.from-2.ensures)
    (word_below c.joined_values-fields.result c.args.kbits decl.kbus (widths decl.fields)
    c.args.common low c.requires.kbits c.requires.common decl.valid.word)
