use Rattle.std.proofs.Common.{ℕ, List, ◌^◌, ◌<◌, ◌≡◌, length, get_or, Some, slice_get, refl, sym, ap, subst, ◌∙◌, arith}
use Rattle.std.proofs.lemmas.Option.{slice_get_read}
use Rattle.prom_split.proofs.JoinSteps.{word_below, stacked_small, stacked_step}
use Rattle.prom_split.proofs.Widths.{width_some}
use Rattle.prom_split.proofs.joining.number_at.Goals as goal

pub overflow_add-number : goal.overflow_add-number
overflow_add-number c =
    let at : slice_get c.args.proms.now c.loop-place.place ≡ Some c.index-proms-place.result =
    slice_get_read c.args.proms.now _ c.loop-place.place c.index-proms-place.result refl (omega arith) c.index-proms-place.is in
    let has = c.requires.bits c.loop-place.place c.index-proms-place.result at in
    let here : c.from-word.result ≡ get_or c.index-proms-place.result.words c.args.address 0 = c.from-word.ensures
    ∙ ap (λ (words : List ℕ). get_or words c.args.address 0) c.words.ensures.words in
    let high : c.from-word.result < 2 ^ c.args.bits =
    subst (λ (n : ℕ). n < 2 ^ c.args.bits) (sym here)
    (word_below c.index-proms-place.result c.args.bits c.args.address has.0 has.1 c.requires.address) in
    omega (
      arith,
      stacked_small c.args.bits c.args.proms.now c.args.address c.loop-place.place (length c.args.proms.now)
          c.loop-place.number c.from-word.result c.from.result c.from.ensures high (omega arith) c.requires.narrow c.loop-place.invariant,
    )

pub loop-place-preserved : goal.loop-place-preserved
loop-place-preserved c =
    let at : slice_get c.args.proms.now c.loop-place.place ≡ Some c.index-proms-place.result =
    slice_get_read c.args.proms.now _ c.loop-place.place c.index-proms-place.result refl (omega arith) c.index-proms-place.is in
    let has = c.requires.bits c.loop-place.place c.index-proms-place.result at in
    let here : c.from-word.result ≡ get_or c.index-proms-place.result.words c.args.address 0 = c.from-word.ensures
    ∙ ap (λ (words : List ℕ). get_or words c.args.address 0) c.words.ensures.words in
    let high : c.from-word.result < 2 ^ c.args.bits =
    subst (λ (n : ℕ). n < 2 ^ c.args.bits) (sym here)
    (word_below c.index-proms-place.result c.args.bits c.args.address has.0 has.1 c.requires.address) in
    stacked_step c.args.bits c.args.proms.now c.args.address c.loop-place.place c.loop-place.number c.index-proms-place.result
    c.from-word.result c.from.result
    (width_some c.args.bits c.requires.width) at here c.from.ensures high c.requires.narrow c.loop-place.invariant
