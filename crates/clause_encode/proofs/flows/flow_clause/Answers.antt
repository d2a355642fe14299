use Rattle.std.proofs.Common.{◌≡◌, ◌<◌, ◌∙◌, ◌++◌, ap, sym, subst, arith, length, ℕ, Some}
use Rattle.std.specs.Prelude.{slice_get}
use Rattle.mcu_jumps.specs.declared.kinds.Kind.{Kind}
use Rattle.mcu_jumps.specs.declared.kinds.Kind.TheVariants as kind
use Rattle.placement_clauses.specs.FirstLabel.{first_real, first_label}
use Rattle.placement_clauses.specs.Number.{col_var}
use Rattle.placement_clauses.specs.Shape.{same}
use Rattle.placement_clauses.specs.Clauses.{at_clauses, goto_clauses, reach_clauses, test_clauses, flow_clauses, instr_clauses}
use Rattle.placement_clauses.proofs.EachTest.{flow-test}
use Rattle.placement_clauses.proofs.CountLemmas.{length-goto, length-enable}
use Rattle.clause_encode.proofs.PlaceLemmas.{at_piece}
use Rattle.clause_encode.proofs.flows.flow_clause.Goals as goal

pub goto_clause-requires-clause-place : goal.goto_clause-requires-clause-place
unfolding flow_clauses
goto_clause-requires-clause-place c =
    let n = c.args.labels in
    let s = c.args.source in
    let ts = c.args.instr.now.targets in
    let whole : length (flow_clauses n s c.args.instr.now.kind ts) ≡ 51 = ap (λ (k : Kind). length (flow_clauses n s k ts)) c.in-Goto.is
    ∙ length-goto n s (first_label ts) in
    subst (λ (m : ℕ). c.args.place < m) whole c.requires.place

pub at_clause-requires-clause-place : goal.at_clause-requires-clause-place
unfolding flow_clauses
at_clause-requires-clause-place c =
    let n = c.args.labels in
    let s = c.args.source in
    let ts = c.args.instr.now.targets in
    let whole : length (flow_clauses n s c.args.instr.now.kind ts) ≡ 2 =
    ap (λ (k : Kind). length (flow_clauses n s k ts)) c.in-Strobe.is in
    subst (λ (m : ℕ). c.args.place < m) whole c.requires.place

pub enable_clause-requires-clause-place : goal.enable_clause-requires-clause-place
unfolding flow_clauses
enable_clause-requires-clause-place c =
    let n = c.args.labels in
    let s = c.args.source in
    let ts = c.args.instr.now.targets in
    let whole : length (flow_clauses n s c.args.instr.now.kind ts) ≡ 48 = ap (λ (k : Kind). length (flow_clauses n s k ts)) c.in-Enable.is
    ∙ length-enable s (first_label ts) in
    subst (λ (m : ℕ). c.args.place < m) whole c.requires.place

pub test_clause-requires : goal.test_clause-requires
test_clause-requires c =
    let n = c.args.labels in
    let s = c.args.source in
    let ts = c.args.instr.now.targets in
    let targets = c.as_slice-targets.ensures in
    let kind = c.args.instr.now.kind in
    let is = c.requires.instr in
    let below : (o y : ℕ) → slice_get ts o ≡ Some (Some y) → y < 512 = λ o y at. let lt : y < n = is.targets_in_range o y at in
    omega arith in
    let here = subst (λ (m : ℕ). c.args.place < m)
    (ap length (flow-test n s kind ts c.in_default.not-Goto c.in_default.not-Strobe c.in_default.not-Enable)) c.requires.place in
    rw targets (record {
      label = is.some_label;
      count = is.target_for_each_outcome;
      source = omega arith;
      targets = below;
      place = here;
    })

pub returns-in-Goto : goal.returns-in-Goto
unfolding flow_clauses
returns-in-Goto c =
    let n = c.args.labels in
    let s = c.args.source in
    let ts = c.args.instr.now.targets in
    let target = c.first_label_of-target.ensures.label ∙ ap first_label c.as_slice-targets.ensures in
    at_piece (instr_clauses n s c.args.instr.now) (goto_clauses n s c.first_label_of-target.result.label) c.args.place c.args.place _
    (sym ((λ i. slice_get (goto_clauses n s (target i)) c.args.place)
    ∙ ap (λ (k : Kind). slice_get (flow_clauses n s k ts) c.args.place) (sym c.in-Goto.is))) c.goto_clause.ensures

pub returns-in-Strobe : goal.returns-in-Strobe
unfolding flow_clauses
returns-in-Strobe c =
    let n = c.args.labels in
    let s = c.args.source in
    let ts = c.args.instr.now.targets in
    let target = c.first_label_of-target.ensures.label ∙ ap first_label c.as_slice-targets.ensures in
    at_piece (instr_clauses n s c.args.instr.now) (at_clauses c.first_label_of-target.result.label 0 15) c.args.place c.args.place _
    (sym ((λ i. slice_get (at_clauses (target i) 0 15) c.args.place)
    ∙ ap (λ (k : Kind). slice_get (flow_clauses n s k ts) c.args.place) (sym c.in-Strobe.is))) c.at_clause.ensures

pub returns-in-Enable : goal.returns-in-Enable
unfolding flow_clauses
returns-in-Enable c =
    let n = c.args.labels in
    let s = c.args.source in
    let ts = c.args.instr.now.targets in
    let target = c.first_label_of-target.ensures.label ∙ ap first_label c.as_slice-targets.ensures in
    at_piece (instr_clauses n s c.args.instr.now)
    (same 16 (col_var s 0)
    (col_var c.first_label_of-target.result.label 0) ++ reach_clauses kind.Enable s c.first_label_of-target.result.label)
    c.args.place c.args.place _
    (sym ((λ i. slice_get (same 16 (col_var s 0) (col_var (target i) 0) ++ reach_clauses kind.Enable s (target i)) c.args.place)
    ∙ ap (λ (k : Kind). slice_get (flow_clauses n s k ts) c.args.place) (sym c.in-Enable.is))) c.enable_clause.ensures

pub returns-in_default : goal.returns-in_default
returns-in_default c =
    let n = c.args.labels in
    let s = c.args.source in
    let ts = c.args.instr.now.targets in
    let targets = c.as_slice-targets.ensures in
    at_piece (instr_clauses n s c.args.instr.now)
    (test_clauses c.args.instr.now.kind s c.as_slice-targets.result.now (first_real c.as_slice-targets.result.now)
    (first_label c.as_slice-targets.result.now)) c.args.place c.args.place _
    (sym ((λ i. slice_get (test_clauses c.args.instr.now.kind s (targets i) (first_real (targets i)) (first_label (targets i)))
    c.args.place)
    ∙ ap (λ l. slice_get l c.args.place)
    (sym (flow-test n s c.args.instr.now.kind ts c.in_default.not-Goto c.in_default.not-Strobe c.in_default.not-Enable))))
    c.test_clause.ensures
