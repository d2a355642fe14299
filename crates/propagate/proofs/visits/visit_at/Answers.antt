use Rattle.std.proofs.Common.{◌≡◌, ◌≢◌, ◌≤◌, ◌<◌, ℤ, List, length, Some, true, refl, sym, ap, subst, ◌∙◌, ⊎_elim, arith}
use Rattle.std.specs.Prelude.{slice_get}
use Rattle.std.proofs.lemmas.Option.{slice_get_within, same_Some, get_or_from_slice_get}
use Rattle.clause_base.specs.Lit.{var_of}
use Rattle.clause_base.specs.Truth.{lits_of, IsSatisfied}
use Rattle.trail.specs.Assignment.{value_of}
use Rattle.propagate.specs.Lists.{list_at}
use Rattle.propagate.specs.Watching.{IsPartner}
use Rattle.propagate.specs.declared.watch_lists.Watch.{Watch}
use Rattle.propagate.specs.declared.pairs.Pair.{Pair}
use Rattle.propagate.proofs.Conclusions.{clause_at, in_all}
use Rattle.propagate.proofs.Values.{told_true}
use Rattle.propagate.proofs.visits.visit_at.Goals as goal

pub value-requires : goal.value-requires
value-requires c =
    let r = c.requires in
    let w = c.get-watch.result in
    let vars = c.args.list.now.vars in
    let clauses = c.args.list.now.clauses in
    let entry = r.laid.listed c.code_of_lit.result c.args.place w c.get-watch.ensures in
    let le : var_of w.blocker ≤ vars =
    in_all (λ (z : ℤ). var_of z ≤ vars) entry.clause w.blocker
    (clause_at vars clauses w.index entry.clause r.valid entry.there).in_range entry.blocker_in in
    omega (arith, le, r.vars)

pub returns-then-eq-clause-told : goal.returns-then-eq-clause-told
returns-then-eq-clause-told c =
    let r = c.requires in
    let w = c.get-watch.result in
    let clauses = c.args.list.now.clauses in
    let entry = r.laid.listed c.code_of_lit.result c.args.place w c.get-watch.ensures in
    let holds : value_of w.blocker c.args.trail.now.entries ≡ Some true = sym c.value.ensures
    ∙ told_true c.value.result (sym c.eq.ensures ∙ c.if-eq.true) in (
      refl,
      λ x x_at d p d_there p_there apart which.
          let same : w ≡ x = same_Some w x (sym c.get-watch.ensures
          ∙ ap (λ n. slice_get (list_at c.args.watches.now.lists n) c.args.place) c.code_of_lit.ensures ∙ x_at) in
          let is : entry.clause ≡ d = same_Some entry.clause d (sym entry.there ∙ ap (λ (y : Watch). slice_get clauses y.index) same
          ∙ d_there) in
          subst (λ (y : List ℤ). IsSatisfied (lits_of c.args.trail.now.entries) y) is
          (record { place = entry.blocker_in.place; lit = w.blocker; there = entry.blocker_in.there; holds = holds }),
    )

pub returns-then-index-len-clause-told : goal.returns-then-index-len-clause-told
returns-then-index-len-clause-told c =
    let w = c.get-watch.result in (
      refl,
      λ x x_at d p d_there p_there apart which.
          let same : w ≡ x = same_Some w x (sym c.get-watch.ensures
          ∙ ap (λ n. slice_get (list_at c.args.watches.now.lists n) c.args.place) c.code_of_lit.ensures ∙ x_at) in
          let lt : w.index < length c.args.watches.now.pairs.items =
          slice_get_within c.args.watches.now.pairs.items w.index p
          (ap (λ (y : Watch). slice_get c.args.watches.now.pairs.items y.index) same ∙ p_there) in
          absurd (omega (arith, lt, c.if-index-len.true, c.len.ensures, c.args.watches.now.pairs.ok)),
    )

pub visit_clause-requires-clause-partner : goal.visit_clause-requires-clause-partner
visit_clause-requires-clause-partner c p p_there =
    let q = c.index.result.now in
    let is : q ≡ p = c.index.ensures ∙ get_or_from_slice_get c.args.watches.now.pairs.items c.get-watch.result.index p q p_there in
    subst (λ (y : Pair). IsPartner y c.args.lit c.in-Some.other) is c.in-Some.ensures

pub returns-in-None-clause-told : goal.returns-in-None-clause-told
returns-in-None-clause-told c =
    let w = c.get-watch.result in
    let q = c.index.result.now in (
      refl,
      λ x x_at d p d_there p_there apart which.
          let same : w ≡ x = same_Some w x (sym c.get-watch.ensures
          ∙ ap (λ n. slice_get (list_at c.args.watches.now.lists n) c.args.place) c.code_of_lit.ensures ∙ x_at) in
          let is : q ≡ p = c.index.ensures
          ∙ get_or_from_slice_get c.args.watches.now.pairs.items w.index p q
          (ap (λ (y : Watch). slice_get c.args.watches.now.pairs.items y.index) same ∙ p_there) in
          let ne : q.first ≢ q.second = λ s. apart (ap (λ (y : Pair). y.first) (sym is) ∙ s ∙ ap (λ (y : Pair). y.second) is) in
          absurd (⊎_elim
          (λ (first : p.first ≡ c.args.lit). (c.in-None.ensures ne).0 (ap (λ (y : Pair). y.first) is ∙ first))
          (λ (second : p.second ≡ c.args.lit). (c.in-None.ensures ne).1 (ap (λ (y : Pair). y.second) is ∙ second))
          which),
    )
