use Rattle.std.proofs.Common.{◌≡◌, ◌<◌, ◌≤◌, ℕ, true, false, length, get_or, Some, sym, ap, subst, ◌∙◌, arith}
use Rattle.std.specs.Prelude.{slice_get}
use Rattle.std.proofs.lemmas.Bool.{true≢false}
use Rattle.std.proofs.lemmas.Option.{slice_get-get_or, get_or_from_slice_get, same_Some}
use Rattle.clause_base.specs.Clauses.{Clauses}
use Rattle.clause_base.specs.declared.entry.Entry.{Entry}
use Rattle.trail.specs.Assignment.{Assignment, IsTrail, IsLevelled}
use Rattle.trail.proofs.Levels.{IsTrail-levelled}
use Rattle.propagate.specs.Standing.{Standing}
use Rattle.placer.proofs.Resolving.{within_reason, reason_number}
use Rattle.placer.proofs.Closing.{implied_zero, Closes_past, Closes_marked}
use Rattle.placer.proofs.BoardParts.{named}
use Rattle.placer.proofs.conflict_analysis.close_at.Goals as goal

-- what is known of an entry of level 0
record IsImplied (b : Standing) (place : ℕ) (d : Entry) : Type 0 where
  pub ordered : IsTrail b.list.vars b.trail.entries
  pub levelled : IsLevelled b.trail.entries
  pub at : slice_get b.trail.entries place ≡ Some d
  pub implied : 0 < d.reason

implied : (b : Standing) (read : Assignment) (place : ℕ) (d : Entry) → read ≡ b.trail → IsTrail b.list.vars b.trail.entries
    → slice_get read.entries place ≡ Some d → d.level ≡ 0 → IsImplied b place d
implied b read place d value t there low =
    let l : IsLevelled b.trail.entries = IsTrail-levelled b.list.vars b.trail.entries t in
    let at : slice_get b.trail.entries place ≡ Some d = ap (λ (a : Assignment). slice_get a.entries place) (sym value) ∙ there in
    record {
      ordered = t;
      levelled = l;
      at = at;
      implied = implied_zero b.trail.entries l place d at low;
    }

pub returns-then-entry-ne0-clause-closes : goal.returns-then-entry-ne0-clause-closes
returns-then-entry-ne0-clause-closes c = λ first k.
    let b = c.args.board.now in
    let at : slice_get b.trail.entries c.args.place ≡ Some c.entry-entry.result =
    ap (λ (a : Assignment). slice_get a.entries c.args.place) (sym c.trail.ensures.trail) ∙ c.entry-entry.ensures in
    Closes_past b.list.clauses b.trail.entries c.args.places.now c.args.place first c.args.marks.now
    (λ e there low on. c.if-entry-ne0.true (ap (λ (x : Entry). x.level) (same_Some c.entry-entry.result e (sym at ∙ there)) ∙ low)) k

pub returns-then-not-marks-place-clause-closes : goal.returns-then-not-marks-place-clause-closes
returns-then-not-marks-place-clause-closes c = λ first k.
    let b = c.args.board.now in
    Closes_past b.list.clauses b.trail.entries c.args.places.now c.args.place first c.args.marks.now
    (λ e there low h. let on : get_or c.args.marks.now c.args.place false ≡ true =
    get_or_from_slice_get c.args.marks.now c.args.place true false h in true≢false (sym on ∙ c.if-not-marks-place.true)) k

pub get-reason-requires : goal.get-reason-requires
get-reason-requires c =
    let b = c.args.board.now in
    let r = implied b c.trail.result.now c.args.place c.entry-entry.result c.trail.ensures.trail
    c.trail.ensures.ordered c.entry-entry.ensures c.if-entry-ne0.false in (
      r.implied,
      subst (λ (x : Clauses). c.entry-entry.result.reason ≤ length x.clauses) (sym c.list.ensures.list)
          (reason_number b.list.vars b.list.clauses b.trail.entries c.args.places.now r.ordered c.trail.ensures.sound.forced
          c.requires.places c.args.place c.entry-entry.result r.at r.implied),
    )

pub mark_clause-requires : goal.mark_clause-requires
mark_clause-requires c =
    let b = c.args.board.now in
    let r = implied b c.trail.result.now c.args.place c.entry-entry.result c.trail.ensures.trail
    c.trail.ensures.ordered c.entry-entry.ensures c.if-entry-ne0.false in
    within_reason b.list.vars b.list.clauses b.trail.entries c.args.places.now r.ordered c.trail.ensures.sound.forced
    c.requires.places c.args.place c.entry-entry.result c.get-reason.result.now (length c.args.marks.now) r.at r.implied
    (named b.list c.list.result.now c.entry-entry.result c.get-reason.result.now c.list.ensures.list r.implied
    c.get-reason.ensures.clause) c.requires.room

pub returns-clause-closes : goal.returns-clause-closes
returns-clause-closes c = λ first k.
    let b = c.args.board.now in
    let r = implied b c.trail.result.now c.args.place c.entry-entry.result c.trail.ensures.trail
    c.trail.ensures.ordered c.entry-entry.ensures c.if-entry-ne0.false in
    let low : c.args.place < length b.trail.entries = c.requires.within in
    let room : length b.trail.entries ≤ length c.args.marks.now = c.requires.room in
    let own : slice_get c.args.marks.now c.args.place ≡ Some true = slice_get-get_or c.args.marks.now c.args.place false (omega arith)
    ∙ ap Some c.if-not-marks-place.false in
    Closes_marked b.list.vars b.list.clauses b.trail.entries c.args.places.now c.args.place first c.args.marks.now c.mark_clause.new.marks
    c.entry-entry.result c.get-reason.result.now r.ordered r.levelled c.trail.ensures.sound.forced c.requires.places r.at
    c.if-entry-ne0.false r.implied
    (named b.list c.list.result.now c.entry-entry.result c.get-reason.result.now c.list.ensures.list r.implied
    c.get-reason.ensures.clause) own c.mark_clause.ensures k
