use Rattle.std.proofs.Common.{◌≡◌, ◌<◌, ◌≤◌, ℕ, List, Bool, true, false, length, get_or, Some, sym, ap, subst, ◌∙◌, arith}
use Rattle.std.specs.Prelude.{slice_get, All}
use Rattle.std.proofs.lemmas.Bool.{true≢false}
use Rattle.std.proofs.lemmas.Option.{slice_get-get_or, get_or_from_slice_get}
use Rattle.clause_base.specs.Clauses.{Clauses}
use Rattle.clause_base.specs.declared.entry.Entry.{Entry}
use Rattle.trail.specs.Assignment.{Assignment, IsTrail, IsLevelled, level_of}
use Rattle.trail.proofs.Levels.{IsTrail-levelled}
use Rattle.propagate.specs.Standing.{Standing, IsSound}
use Rattle.placer.specs.Marking.{IsWithin, ArePlaces, Lowers, IsLowest}
use Rattle.placer.proofs.Resolving.{within_reason, reason_after, reason_number, past_unmarked, past_marked}
use Rattle.placer.proofs.BoardParts.{named}
use Rattle.placer.proofs.conflict_analysis.resolve.Goals as goal

-- what is known of a marked entry after the least marked one of the present level
record IsResolved (b : Standing) (place : ℕ) (marks : List Bool) (d : Entry) : Type 0 where
  pub ordered : IsTrail b.list.vars b.trail.entries
  pub at : slice_get b.trail.entries place ≡ Some d
  pub own : slice_get marks place ≡ Some true
  pub implied : 0 < d.reason

resolved : (b : Standing) (read : Assignment) (places : List ℕ) (place lowest : ℕ) (marks : List Bool) (d : Entry) → read ≡ b.trail
    → IsSound b → IsTrail b.list.vars b.trail.entries → ArePlaces b.list.vars b.trail.entries places
    → place < length b.trail.entries → length b.trail.entries ≤ length marks → IsLowest b.trail.entries marks lowest → lowest < place
    → 0 < level_of b.trail.entries → slice_get read.entries place ≡ Some d → get_or marks place false ≡ true → IsResolved b place marks d
resolved b read places place lowest marks d value sound t p within room k lt above there on =
    let es = b.trail.entries in
    let l : IsLevelled b.trail.entries = IsTrail-levelled b.list.vars b.trail.entries t in
    let at : slice_get b.trail.entries place ≡ Some d = ap (λ (a : Assignment). slice_get a.entries place) (sym value) ∙ there in
    record {
      ordered = t;
      at = at;
      own = slice_get-get_or marks place false (omega arith) ∙ ap Some on;
      implied = reason_after b.list.vars b.list.clauses es places t sound.forced p l lowest place marks d k lt at above;
    }

pub returns-then-not-marks-place-clause-at : goal.returns-then-not-marks-place-clause-at
returns-then-not-marks-place-clause-at c =
    λ n k. past_unmarked c.args.board.now.list.clauses c.args.board.now.trail.entries n c.args.place c.args.marks.now c.args.lowest
    c.requires.above
    (λ h. let on : get_or c.args.marks.now c.args.place false ≡ true = get_or_from_slice_get c.args.marks.now c.args.place true false h in
    true≢false (sym on ∙ c.if-not-marks-place.true)) k

pub get-reason-requires : goal.get-reason-requires
get-reason-requires c =
    let b = c.args.board.now in
    let r = resolved b c.trail-trail.result.now c.args.places.now c.args.place c.args.lowest c.args.marks.now c.entry.result
    c.trail-trail.ensures.trail c.trail-trail.ensures.sound c.trail-trail.ensures.ordered
    c.requires.places c.requires.within c.requires.room c.requires.lowest c.requires.above c.requires.level c.entry.ensures
    c.if-not-marks-place.false in (
      r.implied,
      subst (λ (x : Clauses). c.entry.result.reason ≤ length x.clauses) (sym c.list.ensures.list)
          (reason_number b.list.vars b.list.clauses b.trail.entries c.args.places.now r.ordered c.trail-trail.ensures.sound.forced
          c.requires.places c.args.place c.entry.result r.at r.implied),
    )

pub mark_clause-requires : goal.mark_clause-requires
mark_clause-requires c =
    let b = c.args.board.now in
    let r = resolved b c.trail-trail.result.now c.args.places.now c.args.place c.args.lowest c.args.marks.now c.entry.result
    c.trail-trail.ensures.trail c.trail-trail.ensures.sound c.trail-trail.ensures.ordered
    c.requires.places c.requires.within c.requires.room c.requires.lowest c.requires.above c.requires.level c.entry.ensures
    c.if-not-marks-place.false in
    within_reason b.list.vars b.list.clauses b.trail.entries c.args.places.now r.ordered c.trail-trail.ensures.sound.forced
    c.requires.places c.args.place c.entry.result c.get-reason.result.now (length c.args.marks.now) r.at r.implied
    (named b.list c.list.result.now c.entry.result c.get-reason.result.now c.list.ensures.list r.implied c.get-reason.ensures.clause)
    c.requires.room

pub lowest_of-requires : goal.lowest_of-requires
lowest_of-requires c =
    let b = c.args.board.now in
    let r = resolved b c.trail-trail.result.now c.args.places.now c.args.place c.args.lowest c.args.marks.now c.entry.result
    c.trail-trail.ensures.trail c.trail-trail.ensures.sound c.trail-trail.ensures.ordered
    c.requires.places c.requires.within c.requires.room c.requires.lowest c.requires.above c.requires.level c.entry.ensures
    c.if-not-marks-place.false in
    let le : length b.trail.entries ≤ length b.trail.entries = omega arith in
    subst (λ (a : Assignment). All (IsWithin c.args.places.now (length a.entries)) c.get-reason.result.now)
    (sym c.trail-trail.ensures.trail)
    (within_reason b.list.vars b.list.clauses b.trail.entries c.args.places.now r.ordered c.trail-trail.ensures.sound.forced
    c.requires.places c.args.place c.entry.result c.get-reason.result.now (length b.trail.entries) r.at r.implied
    (named b.list c.list.result.now c.entry.result c.get-reason.result.now c.list.ensures.list r.implied c.get-reason.ensures.clause)
    le)

pub returns-clause-at : goal.returns-clause-at
returns-clause-at c = λ n k.
    let b = c.args.board.now in
    let r = resolved b c.trail-trail.result.now c.args.places.now c.args.place c.args.lowest c.args.marks.now c.entry.result
    c.trail-trail.ensures.trail c.trail-trail.ensures.sound c.trail-trail.ensures.ordered
    c.requires.places c.requires.within c.requires.room c.requires.lowest c.requires.above c.requires.level c.entry.ensures
    c.if-not-marks-place.false in
    let level : c.level-level.result ≡ level_of b.trail.entries = c.level-level.ensures.level
    ∙ ap (λ (a : Assignment). level_of a.entries) c.trail-trail.ensures.trail in
    let lowers : Lowers b.trail.entries c.args.places.now (level_of b.trail.entries)
    c.get-reason.result.now c.args.lowest c.lowest_of.result =
    subst (λ (m : ℕ). Lowers b.trail.entries c.args.places.now m c.get-reason.result.now c.args.lowest c.lowest_of.result) level
    (subst (λ (a : Assignment).
    Lowers a.entries c.args.places.now c.level-level.result c.get-reason.result.now c.args.lowest c.lowest_of.result)
    c.trail-trail.ensures.trail c.lowest_of.ensures) in
    past_marked b.list.vars b.list.clauses b.trail.entries c.args.places.now r.ordered c.trail-trail.ensures.sound.forced
    c.requires.places n c.args.place c.args.marks.now c.mark_clause.new.marks c.args.lowest c.lowest_of.result c.entry.result
    c.get-reason.result.now c.requires.above r.own r.at r.implied
    (named b.list c.list.result.now c.entry.result c.get-reason.result.now c.list.ensures.list r.implied c.get-reason.ensures.clause)
    c.mark_clause.ensures lowers k
