use Rattle.std.proofs.Common.{◌≡◌, ◌<◌, ◌≤◌, ◌++◌, [], ◌∷◌, ap, sym, subst, ◌∙◌, arith, length, take, filter, List, true, false}
use Rattle.std.proofs.lemmas.Bool.Decides.{nat_tests}
use Rattle.std.specs.Prelude.{nat_le, nat_lt}
use Rattle.std.specs.Option.{option_to_list}
use Rattle.clause_base.specs.Lit.{var_of}
use Rattle.clause_base.specs.declared.entry.Entry.{Entry}
use Rattle.trail.specs.Assignment.{ends_above_test}
use Rattle.trail.specs.Kept.{AreKept}
use Rattle.trail.proofs.Order.{IsTrail-last}
use Rattle.trail.proofs.Changes.{AreKept-pop}
use Rattle.trail.proofs.Ends.{level-pop, filter-pop, take-pop, level-last, ends-push, filter-low}
use Rattle.trail.proofs.trail.Trail.back_to.Goals as goal

pub index_mut-requires : goal.index_mut-requires
index_mut-requires c =
    let t = c.undo.self-inside in
    let es = c.pop.new.self.items in
    let e = c.unwrap-last.result in
    let split : t.entries.items ≡ es ++ e ∷ [] = c.pop.ensures.items ∙ ap (λ o. es ++ option_to_list o) c.unwrap-last.ensures in
    let kept : AreKept t.vars (es ++ e ∷ []) t.signs.items =
    subst (λ (l : List Entry). AreKept t.vars l t.signs.items) split c.undo.invariant.lists in
    let within : var_of e.lit ≤ t.vars = (IsTrail-last t.vars es e kept.ordered).in_range in
    omega (arith, within, c.var.ensures.value, kept.sized, t.signs.ok)

pub undo-preserved : goal.undo-preserved
undo-preserved c =
    let t = c.undo.self-inside in
    let k = c.undo.invariant in
    let es = c.pop.new.self.items in
    let e = c.unwrap-last.result in
    let split : t.entries.items ≡ es ++ e ∷ [] = c.pop.ensures.items ∙ ap (λ o. es ++ option_to_list o) c.unwrap-last.ensures in
    let kept : AreKept t.vars (es ++ e ∷ []) t.signs.items = subst (λ (l : List Entry). AreKept t.vars l t.signs.items) split k.lists in
    let follows = IsTrail-last t.vars es e kept.ordered in
    let ends : nat_lt c.args.level e.level ≡ true = sym (ends-push c.args.level es e)
    ∙ ap (ends_above_test c.args.level) (sym split ∙ sym c.deref.ensures.value) ∙ sym c.ends_above.ensures ∙ c.undo-test.true in
    let above : c.args.level < e.level = grind (arith, nat_tests) in
    let fails : nat_le e.level c.args.level ≡ false = grind (arith, nat_tests) in
    record {
      few = k.few;
      same = k.same;
      room = omega (arith, k.room, c.pop.ensures.capacity);
      lists = rw c.var.ensures.value (AreKept-pop t.vars es t.signs.items e kept);
      above = level-pop t.vars es e c.args.level follows above;
      kept = sym (filter-pop (λ x. nat_le x.level c.args.level) es e fails) ∙ ap (filter (λ x. nat_le x.level c.args.level)) (sym split)
          ∙ k.kept;
      front = take-pop es c.self.inside.entries.items e
          (subst (λ (l : List Entry). l ≡ take (length l) c.self.inside.entries.items) split k.front);
    }

pub invariant_of-self : goal.invariant_of-self
invariant_of-self c =
    let t = c.undo.self-inside in
    let k = c.undo.invariant in
    let ends : ends_above_test c.args.level t.entries.items ≡ false = ap (ends_above_test c.args.level) (sym c.deref.ensures.value)
    ∙ sym c.ends_above.ensures ∙ c.undo-test.false in
    let low = level-last t.vars t.entries.items c.args.level k.lists.ordered ends in
    record { few = k.few; room = k.room; level = omega (arith, low, k.above); lists = k.lists }

pub returns-clause-kept : goal.returns-clause-kept
returns-clause-kept c =
    let t = c.undo.self-inside in
    let k = c.undo.invariant in
    let ends : ends_above_test c.args.level t.entries.items ≡ false = ap (ends_above_test c.args.level) (sym c.deref.ensures.value)
    ∙ sym c.ends_above.ensures ∙ c.undo-test.false in
    let low = level-last t.vars t.entries.items c.args.level k.lists.ordered ends in
    sym (filter-low t.vars t.entries.items c.args.level k.lists.ordered low) ∙ k.kept
    ∙ ap (λ a. filter (λ e. nat_le e.level c.args.level) a.entries) c.self.view_is

pub returns-clause-level : goal.returns-clause-level
returns-clause-level c =
    let t = c.undo.self-inside in
    let k = c.undo.invariant in
    let ends : ends_above_test c.args.level t.entries.items ≡ false = ap (ends_above_test c.args.level) (sym c.deref.ensures.value)
    ∙ sym c.ends_above.ensures ∙ c.undo-test.false in
    let low = level-last t.vars t.entries.items c.args.level k.lists.ordered ends in
    omega (arith, low, k.above)
