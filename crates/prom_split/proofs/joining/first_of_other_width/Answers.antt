use Rattle.std.proofs.Common.{◌≡◌, inl, inr, Some, slice_get, refl, sym, ap, subst, ◌∙◌, arith}
use Rattle.std.proofs.lemmas.Bool.{cases_lt}
use Rattle.std.proofs.lemmas.Option.{slice_get_read, slice_get_within}
use Rattle.bpnf.specs.Image.{Image, IsImage}
use Rattle.prom_split.proofs.ListSteps.{some_back}
use Rattle.prom_split.proofs.joining.first_of_other_width.Goals as goal

pub returns-then-bits-clause-some : goal.returns-then-bits-clause-some
returns-then-bits-clause-some c = (
  c.index-proms-place.result,
  slice_get_read c.args.proms.now _ c.loop-place.place c.index-proms-place.result refl (omega arith) c.index-proms-place.is,
  (λ e. c.if-bits.true (c.bits.ensures.bits ∙ e)),
  λ j earlier lt at. (c.loop-place.invariant j earlier lt at).1,
)

pub loop-place-preserved : goal.loop-place-preserved
loop-place-preserved c = λ k image lt at. elim (cases_lt k c.loop-place.place) [
  | inl before ↦ c.loop-place.invariant k image before at
  | inr after ↦
      (let here : k ≡ c.loop-place.place = omega arith in
      let read : slice_get c.args.proms.now c.loop-place.place ≡ Some c.index-proms-place.result =
      slice_get_read c.args.proms.now _ c.loop-place.place c.index-proms-place.result refl (omega arith) c.index-proms-place.is in
      let same : c.index-proms-place.result ≡ image =
      some_back c.index-proms-place.result image (sym read ∙ ap (slice_get c.args.proms.now) (sym here) ∙ at) in
      let P : Image → Type 0 = λ x. IsImage x × (x.bits ≡ c.args.bits) in
      subst P same (c.bits.ensures.image, sym c.bits.ensures.bits ∙ c.if-bits.false))
]

pub returns-clause-none : goal.returns-clause-none
returns-clause-none c = λ k image at. c.loop-place.invariant k image (omega (arith, slice_get_within c.args.proms.now k image at)) at
