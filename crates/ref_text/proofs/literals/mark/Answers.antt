use Rattle.std.proofs.Common.{◌≡◌, ◌∙◌, ℕ, ◌-◌, ◌<◌, sym, ap, length, true, false, refl, length-set}
use Rattle.std.specs.Prelude.{◌&&◌, not, slice_index_or}
use Rattle.ref_text.specs.declared.words.Signed.{Signed}
use Rattle.ref_text.specs.Fault.{is_variable, are_literals}
use Rattle.ref_text.proofs.MarkLemmas.{mark_more, mark_stops, met_more, met_kept}
use Rattle.ref_text.proofs.literals.mark.Goals as goal

abbrev none : Signed
none = record { minus = false; size = 0 }

pub loop-literal-init : goal.loop-literal-init
unfolding are_literals
loop-literal-init c = record { apart = refl; sized = refl; met = c.requires.clear }

pub returns-then-not-is_free-clause-told : goal.returns-then-not-is_free-clause-told
returns-then-not-is_free-clause-told c =
    let l = c.loop-literal in
    let value = slice_index_or c.args.literals.now l.literal-index none in
    let test : (is_variable (length c.args.marks.now - 1) value.size && not (slice_index_or l.marks value.size false)) ≡ false =
    ap (λ (n : ℕ). is_variable (n - 1) value.size && not (slice_index_or l.marks value.size false)) (sym l.invariant.sized)
    ∙ sym c.is_free.ensures.told ∙ c.if-not-is_free.true in
    sym (mark_stops (length c.args.marks.now - 1) c.args.literals.now l.literal-index value none (slice_index_or l.marks value.size false)
    c.loop-literal-test.true refl (l.invariant.met value.size) test)

pub returns-then-not-is_free-clause-met : goal.returns-then-not-is_free-clause-met
returns-then-not-is_free-clause-met c =
    λ v h. met_kept c.args.literals.now c.loop-literal.literal-index v (sym (c.loop-literal.invariant.met v) ∙ h)

pub loop-literal-preserved : goal.loop-literal-preserved
loop-literal-preserved c =
    let l = c.loop-literal in
    let value = slice_index_or c.args.literals.now l.literal-index none in
    let within : value.size < length l.marks = c.is_free.ensures.within c.if-not-is_free.false in
    let test : (is_variable (length c.args.marks.now - 1) value.size && not (slice_index_or l.marks value.size false)) ≡ true =
    ap (λ (n : ℕ). is_variable (n - 1) value.size && not (slice_index_or l.marks value.size false)) (sym l.invariant.sized)
    ∙ sym c.is_free.ensures.told ∙ c.if-not-is_free.false in
    record {
      apart = mark_more (length c.args.marks.now - 1) c.args.literals.now l.literal-index value none
          (slice_index_or l.marks value.size false) c.loop-literal-test.true refl l.invariant.apart (l.invariant.met value.size) test;
      sized = length-set l.marks _ _ ∙ l.invariant.sized;
      met = met_more c.args.literals.now l.literal-index value none l.marks c.loop-literal-test.true refl within l.invariant.met;
    }
