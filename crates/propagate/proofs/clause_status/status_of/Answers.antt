use Rattle.std.proofs.Common.{◌≡◌, ◌+◌, ◌<◌, ◌++◌, [], ◌∷◌, ap, sym, subst, ◌∙◌, take, length, Some, arith, ℤ, List, Option}
use Rattle.std.proofs.lemmas.List.{take_more}
use Rattle.clause_base.specs.Truth.{lits_of}
use Rattle.propagate.proofs.Looks.{IsSoFar, more_false, more_unassigned, two_told, none_unassigned, some_remembered}
use Rattle.propagate.proofs.clause_status.status_of.Goals as goal
use Rattle.propagate.proofs.clause_status.status_of.Goals.{in-Some-false, in-None+in-None-unassigned}

pub returns-in-Some : goal.returns-in-Some
returns-in-Some c =
    let held : List ℤ = lits_of c.args.trail.now.entries in
    let i = c.loop-lit.lit-index in
    let lt : i < length c.args.clause.now = omega arith in
    two_told held c.args.clause.now i c.lit-item.result c.in-Some.first lt (sym c.lit-item.is) (sym c.value.ensures ∙ c.in-None.is)
    (some_remembered held (take i c.args.clause.now) c.loop-lit.unassigned c.in-Some.first c.in-Some.is c.loop-lit.invariant)

pub loop-lit-preserved : goal.loop-lit-preserved
loop-lit-preserved c =
    let held : List ℤ = lits_of c.args.trail.now.entries in
    let seen = take c.loop-lit.lit-index c.args.clause.now in
    let x = c.lit-item.result in
    let lt : c.loop-lit.lit-index < length c.args.clause.now = omega arith in
    let grown : take (c.loop-lit.lit-index + 1) c.args.clause.now ≡ seen ++ x ∷ [] =
    take_more c.args.clause.now c.loop-lit.lit-index x lt ∙ ap (λ y. seen ++ y ∷ []) (sym c.lit-item.is) in
    elim c.match-value.branch [
      | in-Some-false w ↦ subst (λ (u : Option ℤ). IsSoFar held (take (c.loop-lit.lit-index + 1) c.args.clause.now) u)
          (sym w.unassigned-is)
          (rw grown (more_false held seen x c.loop-lit.unassigned c.loop-lit.invariant (sym c.value.ensures ∙ w.in-Some-false.is
          ∙ ap Some w.in-Some-false.field-0-test)))
      | in-None+in-None-unassigned w ↦ subst (λ (u : Option ℤ). IsSoFar held (take (c.loop-lit.lit-index + 1) c.args.clause.now) u)
          (sym w.unassigned-is)
          (rw grown (more_unassigned held seen x
          (none_unassigned held seen c.loop-lit.unassigned w.in-None-unassigned.is c.loop-lit.invariant) (sym c.value.ensures
          ∙ w.in-None.is)))
    ]
