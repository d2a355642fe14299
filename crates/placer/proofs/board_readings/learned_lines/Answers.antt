use Rattle.std.proofs.Common.{◌≡◌, ◌<◌, ◌+◌, ◌-◌, ℕ, ℤ, Some, List, [], ◌∷◌, ◌++◌, length, drop, get_or, sym, ap, subst, ◌∙◌, arith}
use Rattle.std.specs.Prelude.{slice_get}
use Rattle.std.proofs.lemmas.List.{length_push, length-drop, get_or-drop}
use Rattle.std.proofs.lemmas.Option.{get_or_from_slice_get}
use Rattle.std.proofs.lemmas.Iterator.Adapters.{YieldsList-from_vec}
use Rattle.std.proofs.lemmas.Iterator.Consumers.{YieldsList-turn}
use Rattle.clause_base.specs.declared.line.Line.{Line}
use Rattle.placer.proofs.HintLines.{line_of, paired_push}
use Rattle.placer.proofs.board_readings.learned_lines.Goals as goal

pub hints-preserved : goal.hints-preserved
hints-preserved c =
    let given = c.into_iter-used-iterator.ensures.into_iter_gives in
    let t = YieldsList-turn
    (YieldsList-from_vec {s = c.into_iter-used-iterator.result} c.args.hints.items given.0 (given.1 ∙ c.args.hints.ok.0))
    c.hints.yielded _ c.hints.yielded_by _ c.next.new.self c.in-Some.used c.in-Some.is c.next.ensures.steps in
    let clauses : List (List ℤ) = c.args.list.now.clauses in
    let from : ℕ = length c.args.list.now.clauses - length c.args.hints.items in
    let done : ℕ = length c.hints.yielded in
    let clause : List ℤ = c.get.result.now in
    let lt : length c.hints.yielded < length c.args.hints.items = t.0 in
    let at : c.hints.number ≡ length c.args.list.now.clauses - length c.args.hints.items + length c.hints.yielded =
    c.hints.invariant.at in
    let index : c.hints.number + 1 - 1 ≡ length c.args.list.now.clauses - length c.args.hints.items + length c.hints.yielded =
    omega arith in
    let there : slice_get clauses (from + done) ≡ Some clause =
    subst (λ (n : ℕ). slice_get clauses n ≡ Some clause) index c.get.ensures.clause in
    let is : get_or (drop from clauses) done clause ≡ clause =
    get_or-drop from clauses done clause ∙ get_or_from_slice_get clauses (from + done) clause clause there in
    let within : length c.hints.yielded < length (drop from clauses) = omega (arith, length-drop from clauses, c.requires) in
    let text : c.of.result ≡ clause =
    c.of.ensures ∙ c.in_ok-extend_from_slice.ensures.items ∙ ap (λ (zs : List ℤ). zs ++ clause) c.new-clause.ensures.items in
    record {
      at = omega (arith, length_push c.hints.yielded c.in-Some.used);
      made = c.in_ok-push.ensures.items
          ∙ ap (λ (z : List ℤ). c.hints.lines.items ++ line_of z c.in-Some.used ∷ []) text
          ∙ ap (λ (ls : List Line). ls ++ line_of clause c.in-Some.used ∷ []) c.hints.invariant.made
          ∙ sym (paired_push c.hints.yielded (drop from clauses) c.in-Some.used clause within is);
    }
