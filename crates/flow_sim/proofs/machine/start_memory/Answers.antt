use Rattle.std.proofs.Common.{ℕ, ◌≡◌, ◌<◌, ◌^◌, ◌∙◌, List, sym, ap, subst, arith}
use Rattle.std.specs.List.{All}
use Rattle.std.proofs.lemmas.List.Elements.{All-push}
use Rattle.flow_sim.specs.Machine.{first_words}
use Rattle.flow_sim.proofs.StartFits.{first_words_none, first_words_more}
use Rattle.flow_sim.proofs.machine.start_memory.Goals as goal

pub loop-address-init : goal.loop-address-init
loop-address-init c = record {
  words = c.in_ok-memory.ensures.items ∙ first_words_none c.args.script.now;
  fits = λ slices _. subst (All (λ (word : ℕ). word < 4 ^ slices)) (sym {A = List ℕ} c.in_ok-memory.ensures.items)
      (λ k d below. absurd (omega (arith, below)));
}

pub loop-address-preserved : goal.loop-address-preserved
loop-address-preserved c = record {
  words = rw (c.in_ok-push.ensures.items, c.loop-address.invariant.words, c.initial.ensures.exact)
      (first_words_more c.args.script.now c.loop-address.address);
  fits = λ slices h.
      subst (All (λ (word : ℕ). word < 4 ^ slices)) (sym {A = List ℕ} c.in_ok-push.ensures.items)
      (All-push (λ word. word < 4 ^ slices) c.loop-address.memory.items c.initial.result (c.loop-address.invariant.fits slices h)
      (c.initial.ensures.fits slices h));
}

pub returns-clause-words : goal.returns-clause-words
returns-clause-words c =
    let all : c.loop-address.address ≡ 4096 = omega (arith, c.loop-address.auto.address-end, c.loop-address-test.false) in
    c.loop-address.invariant.words ∙ ap (first_words c.args.script.now) all
