use Rattle.std.proofs.Common.{◌≡◌, ◌==◌, ◌+◌, length, drop, ◌++◌, [], ◌∷◌, Some, None, ap, sym, ◌∙◌, rules, tests, arith}
use Rattle.std.proofs.lemmas.Iterator.Consumers.{YieldsList-turn, YieldsList-end}
use Rattle.std.proofs.lemmas.Iterator.Splits.{YieldsList-from_slice_split}
use Rattle.std.proofs.lemmas.List.{length_push, at_drop_all}
use Rattle.ref_text.specs.Words.{words_of, value_of, values_of}
use Rattle.ref_text.proofs.WordLemmas.{onto, onto_nothing, onto_more, onto_end, values_of-drop}
use Rattle.ref_text.proofs.forms.read_values.Goals as goal

pub returns-in-None-value_of : goal.returns-in-None-value_of
returns-in-None-value_of c =
    let t = YieldsList-turn
    (YieldsList-from_slice_split _ (λ b. b == 32) c.args.line.now (cc) (cc) (cc) (λ x r q k. search (rules, tests)))
    c.loop-word.yielded _ c.loop-word.yielded_by _ _ c.in-Some.word c.in-Some.is c.next.ensures.steps in
    let nothing : value_of c.in-Some.word.now ≡ None = sym c.value_of.ensures ∙ c.in-None-value_of.is in
    c.loop-word.invariant
    ∙ ap (onto c.loop-word.values.items) (values_of-drop (words_of c.args.line.now) (length c.loop-word.yielded) c.in-Some.word.now t)
    ∙ onto_nothing c.loop-word.values.items c.in-Some.word.now _ nothing

pub loop-word-preserved : goal.loop-word-preserved
loop-word-preserved c =
    let t = YieldsList-turn
    (YieldsList-from_slice_split _ (λ b. b == 32) c.args.line.now (cc) (cc) (cc) (λ x r q k. search (rules, tests)))
    c.loop-word.yielded _ c.loop-word.yielded_by _ _ c.in-Some.word c.in-Some.is c.next.ensures.steps in
    let some : value_of c.in-Some.word.now ≡ Some c.in-Some-value_of.value = sym c.value_of.ensures ∙ c.in-Some-value_of.is in
    let more : c.push.new.self.items ≡ c.loop-word.values.items ++ c.in-Some-value_of.value ∷ [] =
    c.in_ok-push-in-Some-value_of.ensures.items in
    let step = c.loop-word.invariant
    ∙ ap (onto c.loop-word.values.items) (values_of-drop (words_of c.args.line.now) (length c.loop-word.yielded) c.in-Some.word.now t)
    ∙ onto_more c.loop-word.values.items c.in-Some.word.now c.in-Some-value_of.value
    (values_of (drop (length c.loop-word.yielded + 1) (words_of c.args.line.now))) some in
    rw (more, length_push c.loop-word.yielded c.in-Some.word) step

pub returns : goal.returns
returns c =
    let t = YieldsList-end
    (YieldsList-from_slice_split _ (λ b. b == 32) c.args.line.now (cc) (cc) (cc) (λ x r q k. search (rules, tests)))
    c.loop-word.yielded _ c.loop-word.yielded_by _ _ c.in-None.is c.next.ensures.steps in
    c.loop-word.invariant
    ∙ ap (onto c.loop-word.values.items)
    (at_drop_all values_of (words_of c.args.line.now) (length c.loop-word.yielded) (omega (arith, t.1)))
    ∙ onto_end c.loop-word.values.items
