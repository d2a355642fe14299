use Rattle.std.proofs.Common.{◌∙◌, ℕ, List, drop, refl, subst, arith}
use Rattle.clause_base.specs.Clauses.{Clauses}
use Rattle.refute_check.specs.Judging.{spot_of, Stands, StandsOn, Brings, StopsIn}
use Rattle.refute_check.specs.declared.judge.NextLine.{NextLine}
use Rattle.refute_check.specs.declared.judge.NextLine.TheVariants as next
use Rattle.refute_check.proofs.JudgingLemmas.{goes_nowhere, at_rest, take_line, take_end, take_bad, take_fail, on_err}
use Rattle.refute_check.proofs.judge.Judge.take.Goals as goal

pub lines-init : goal.lines-init
lines-init g c = record { within = omega arith; list = refl; stands = c.requires.stands; goes = goes_nowhere _ _ _ }

pub lines-preserved : goal.lines-preserved
lines-preserved g c =
    let l = c.lines in
    let list = g.P.ClauseSource.list c.args.source.now in
    let e = c.in_ok-next_line.ensures in
    let given = g.P.ClauseSource.given in
    let brings : Brings list (spot_of l.self) (given l.source) (drop l.at c.args.piece.now) (next.Line c.in-Line.used)
    (spot_of c.next_line.new.self) (given c.next_line.new.source) =
    at_rest (λ (cs : Clauses) (bs : List ℕ) (x : NextLine). Brings cs (spot_of l.self) (given l.source) bs x
    (spot_of c.next_line.new.self) (given c.next_line.new.source))
    (g.P.ClauseSource.list l.source) list l.at c.args.piece.now c.in_ok-next_line.field-0 (next.Line c.in-Line.used)
    l.invariant.list c.in-Line.is e.brings in
    let stands : Stands list c.next_line.new.self (given c.next_line.new.source) =
    subst (λ (cs : Clauses). Stands cs c.next_line.new.self (given c.next_line.new.source)) l.invariant.list
    (subst (λ (x : NextLine). StandsOn (g.P.ClauseSource.list l.source) x c.next_line.new.self (given c.next_line.new.source))
    c.in-Line.is e.stands) in
    let r = take_line list (spot_of c.args.self.now) (spot_of l.self) (spot_of c.next_line.new.self) (given c.args.source.now)
    (given l.source) (given c.next_line.new.source) l.at c.in-Line.used c.args.piece.now
    l.invariant.stands.no_lf l.invariant.within l.invariant.goes brings in
    record { within = r.0; list = e.list ∙ l.invariant.list; stands = stands; goes = r.1 }

pub returns-in-End : goal.returns-in-End
returns-in-End g c =
    let l = c.lines in
    let list = g.P.ClauseSource.list c.args.source.now in
    let e = c.in_ok-next_line.ensures in
    let given = g.P.ClauseSource.given in
    let brings : Brings list (spot_of l.self) (given l.source) (drop l.at c.args.piece.now) next.End (spot_of c.next_line.new.self)
    (given c.next_line.new.source) =
    at_rest (λ (cs : Clauses) (bs : List ℕ) (x : NextLine). Brings cs (spot_of l.self) (given l.source) bs x
    (spot_of c.next_line.new.self) (given c.next_line.new.source))
    (g.P.ClauseSource.list l.source)
    list l.at c.args.piece.now c.in_ok-next_line.field-0 next.End l.invariant.list c.in-End.is e.brings in
    record {
      list = e.list ∙ l.invariant.list;
      stands = subst (λ (cs : Clauses). Stands cs c.next_line.new.self (given c.next_line.new.source)) l.invariant.list
          (subst (λ (x : NextLine). StandsOn (g.P.ClauseSource.list l.source) x c.next_line.new.self (given c.next_line.new.source))
          c.in-End.is e.stands);
      judges = take_end list (spot_of c.args.self.now) (spot_of l.self) (spot_of c.next_line.new.self) (given c.args.source.now)
          (given l.source) (given c.next_line.new.source) l.at c.args.piece.now l.invariant.goes brings;
      fails = tt;
    }

pub returns-in-Bad : goal.returns-in-Bad
returns-in-Bad g c =
    let l = c.lines in
    let list = g.P.ClauseSource.list c.args.source.now in
    let e = c.in_ok-next_line.ensures in
    let given = g.P.ClauseSource.given in
    let brings : Brings list (spot_of l.self) (given l.source) (drop l.at c.args.piece.now) (next.Bad c.in-Bad.why)
    (spot_of c.next_line.new.self) (given c.next_line.new.source) =
    at_rest (λ (cs : Clauses) (bs : List ℕ) (x : NextLine). Brings cs (spot_of l.self) (given l.source) bs x
    (spot_of c.next_line.new.self) (given c.next_line.new.source))
    (g.P.ClauseSource.list l.source) list l.at c.args.piece.now c.in_ok-next_line.field-0 (next.Bad c.in-Bad.why)
    l.invariant.list c.in-Bad.is e.brings in
    record {
      list = e.list ∙ l.invariant.list;
      stands = tt;
      judges = take_bad list (spot_of c.args.self.now) (spot_of l.self) (spot_of c.next_line.new.self) (given c.args.source.now)
          (given l.source) (given c.next_line.new.source)
          l.at c.args.piece.now c.in-Bad.why l.invariant.stands.no_lf l.invariant.goes brings;
      fails = tt;
    }

pub returns-in_err-next_line-clause-fails : goal.returns-in_err-next_line-clause-fails
returns-in_err-next_line-clause-fails g c =
    let l = c.lines in
    let list = g.P.ClauseSource.list c.args.source.now in
    let given = g.P.ClauseSource.given in
    let stops : StopsIn list (spot_of l.self) (given l.source) (drop l.at c.args.piece.now) (given c.next_line.new.source) =
    at_rest (λ (cs : Clauses) (bs : List ℕ) (x : NextLine). StopsIn cs (spot_of l.self) (given l.source) bs
    (given c.next_line.new.source))
    (g.P.ClauseSource.list l.source)
    list l.at c.args.piece.now next.End next.End l.invariant.list refl c.in_err-next_line.ensures.fails in
    on_err _ _ (take_fail list (spot_of c.args.self.now) (spot_of l.self) (given c.args.source.now) (given l.source)
    (given c.next_line.new.source) l.at c.args.piece.now l.invariant.goes stops)
