use Rattle.std.proofs.Common.{◌≡◌, ◌≢◌, ◌<◌, ◌≤◌, ◌+◌, ℕ, length, get_or, set, Some, sym, ap, subst, ◌∙◌, ⊎_elim, arith}
use Rattle.std.specs.Prelude.{slice_get}
use Rattle.std.proofs.lemmas.Bool.{cases_lt}
use Rattle.std.proofs.lemmas.List.{length-set}
use Rattle.std.proofs.lemmas.Option.{slice_get_within, get_or_from_slice_get, same_Some}
use Rattle.clause_base.specs.Lit.{var_of}
use Rattle.clause_base.specs.declared.entry.Entry.{Entry}
use Rattle.trail.specs.Assignment.{Assignment, IsTrail, IsLevelled}
use Rattle.trail.proofs.Levels.{IsTrail-levelled}
use Rattle.propagate.specs.Standing.{Standing, IsSound}
use Rattle.clause_base.proofs.ListLemmas.{get_set_same, get_set_other}
use Rattle.placer.proofs.KnownPlaces.{among_first}
use Rattle.placer.proofs.workspace.note_places.Goals as goal

in-range : (b : Standing) (read : Assignment) (i : ℕ) (e : Entry) → read ≡ b.trail → IsSound b → IsTrail read.vars read.entries
    → slice_get read.entries i ≡ Some e → var_of e.lit ≤ b.list.vars
in-range b read i e value sound t there =
    subst (λ (v : ℕ). var_of e.lit ≤ v) (ap (λ (a : Assignment). a.vars) value ∙ sound.same_vars) (t i e there).in_range

pub loop-index-init : goal.loop-index-init
loop-index-init c = record {
  sized = c.requires.told.sized;
  told = λ i e lt there. c.requires.told.told i e
      (among_first c.args.board.now.trail.entries c.args.known i e c.requires.within lt
      (ap (λ (a : Assignment). slice_get a.entries i) (sym c.trail-trail.ensures.trail) ∙ there));
}

pub bounds-places-var : goal.bounds-places-var
bounds-places-var c =
    let low : var_of c.entry.result.lit ≤ c.args.board.now.list.vars =
    in-range c.args.board.now c.trail-trail.result.now c.loop-index.index c.entry.result c.trail-trail.ensures.trail
    c.trail-trail.ensures.sound c.len-index-end.ensures.ordered c.entry.ensures in
    let size : length c.loop-index.places ≡ c.args.board.now.list.vars + 1 = c.loop-index.invariant.sized in
    omega (arith, low, size, c.var-var.ensures.value)

pub loop-index-preserved : goal.loop-index-preserved
loop-index-preserved c =
    let es = c.trail-trail.result.now.entries in
    let places = c.loop-index.places in
    let i = c.loop-index.index in
    let e = c.entry.result in
    let v = c.var-var.result in
    let there : slice_get es i ≡ Some e = c.entry.ensures in
    let l : IsLevelled es = IsTrail-levelled c.trail-trail.result.now.vars es c.len-index-end.ensures.ordered in
    let low : var_of e.lit ≤ c.args.board.now.list.vars =
    in-range c.args.board.now c.trail-trail.result.now i e c.trail-trail.ensures.trail c.trail-trail.ensures.sound
    c.len-index-end.ensures.ordered there in
    let size : length places ≡ c.args.board.now.list.vars + 1 = c.loop-index.invariant.sized in
    let var : v ≡ var_of e.lit = c.var-var.ensures.value in
    let within : v < length places = omega arith in
    record {
      sized = length-set places v i ∙ size;
      told = λ k d lt at. ⊎_elim
          (λ (before : k < i).
          let inside : i < length es = slice_get_within es i e there in
          let apart : var_of (get_or es k d).lit ≢ var_of (get_or es i d).lit = l.apart k i d before inside in
          let ne : var_of d.lit ≢ v =
          λ s. apart (ap (λ (x : Entry). var_of x.lit) (get_or_from_slice_get es k d d at) ∙ s ∙ var
          ∙ ap (λ (x : Entry). var_of x.lit) (sym (get_or_from_slice_get es i e d there))) in
          get_set_other places v (var_of d.lit) i ne ∙ c.loop-index.invariant.told k d before at)
          (λ (past : i ≤ k).
          let same : k ≡ i = omega arith in
          let is : d ≡ e = same_Some d e (sym at ∙ ap (slice_get es) same ∙ there) in
          ap (slice_get (set places v i)) (ap (λ (x : Entry). var_of x.lit) is ∙ sym var) ∙ get_set_same places v i within
          ∙ ap Some (sym same))
          (cases_lt k i);
    }

pub returns : goal.returns
returns c =
    let value = c.trail-trail.ensures.trail in
    let es = c.args.board.now.trail.entries in
    record {
      sized = c.loop-index.invariant.sized;
      told = λ i e there.
          let lt : i < length es = slice_get_within es i e there in
          let len : length c.trail-trail.result.now.entries ≡ length es = ap (λ (a : Assignment). length a.entries) value in
          c.loop-index.invariant.told i e (omega (arith, len, c.len-index-end.ensures.len))
          (ap (λ (a : Assignment). slice_get a.entries i) value ∙ there);
    }
