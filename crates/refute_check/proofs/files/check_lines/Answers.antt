use Rattle.std.proofs.Common.{◌≡◌, ◌∙◌, ◌-◌, ◌≤◌, ◌^◌, ◌++◌, ℕ, length, take, Some, refl, sym, subst, arith}
use Rattle.std.specs.Prelude.{min}
use Rattle.std.proofs.lemmas.Grind.{common_steps}
use Rattle.clause_base.specs.Clauses.{Clauses}
use Rattle.refute_check.specs.Check.{check}
use Rattle.refute_check.specs.Judging.{spot_of, at_start, Stands, Goes, Refuses, StopsIn, Judges}
use Rattle.refute_check.specs.declared.checked.CheckFault.TheVariants as fault
use Rattle.refute_check.proofs.JudgingLemmas.{goes_then, goes_stops}
use Rattle.refute_check.proofs.DecidingLemmas.{decided_end, judged_bad}
use Rattle.refute_check.proofs.TakenLemmas.{judging_starts, judging_goes_on, HasRead, HasFront, has_front, IsLong, is_long, HasEnded, has_ended}
use Rattle.refute_check.proofs.AnswerLemmas.{end_of_bytes, end_told, end_asks, bad_of_bytes, bad_told, bad_asks, long_of_bytes, long_told, long_asks, stop_asks, unread_asks, refutes_none}
use Rattle.refute_check.proofs.files.check_lines.Goals as goal

pub pieces-init : goal.pieces-init
pieces-init g c = record {
  within = omega arith;
  list = refl;
  stands = c.in-Ok.ensures.stands;
  judged = judging_starts (g.P.ClauseSource.list c.args.source.now) (g.S.Shelf.state c.args.shelf.now) c.args.name.now
      (g.P.ClauseSource.given c.args.source.now) (spot_of c.in-Ok.judge) c.in-Ok.ensures.start;
}

pub returns-in-Err-clause-asks : goal.returns-in-Err-clause-asks
returns-in-Err-clause-asks g c =
    unread_asks (2 ^ 43) (g.P.ClauseSource.list c.args.source.now) (g.S.Shelf.state c.args.shelf.now)
    (g.S.Shelf.state c.pieces.shelf) (g.S.Shelf.state c.read_at.new.self) c.args.name.now (g.P.ClauseSource.given c.args.source.now)
    c.pieces.at (g.P.ClauseSource.given c.pieces.source) (spot_of c.pieces.judge) fault.Failed c.pieces.invariant.judged
    c.pieces.invariant.within c.in-Err.ensures.counts.0

pub returns-in-Ok-None-clause-asks : goal.returns-in-Ok-None-clause-asks
returns-in-Ok-None-clause-asks g c =
    unread_asks (2 ^ 43) (g.P.ClauseSource.list c.args.source.now) (g.S.Shelf.state c.args.shelf.now)
    (g.S.Shelf.state c.pieces.shelf) (g.S.Shelf.state c.read_at.new.self) c.args.name.now (g.P.ClauseSource.given c.args.source.now)
    c.pieces.at (g.P.ClauseSource.given c.pieces.source) (spot_of c.pieces.judge) fault.NoFile c.pieces.invariant.judged
    c.pieces.invariant.within (rw c.in-Ok-None.field-0-is at c.in-Ok-None.ensures).counts.0

pub returns-in-Ok-Some-eq0-clause-of_bytes : goal.returns-in-Ok-Some-eq0-clause-of_bytes
returns-in-Ok-Some-eq0-clause-of_bytes g c =
    let list = g.P.ClauseSource.list c.args.source.now in
    let given = g.P.ClauseSource.given in
    let old = g.S.Shelf.state c.args.shelf.now in
    let now = g.S.Shelf.state c.pieces.shelf in
    let new = g.S.Shelf.state c.read_at.new.self in
    let name = c.args.name.now in
    let buf = c.read_at.new.buf in
    let j = c.pieces.invariant.judged in
    let e = rw c.in-Ok-Some-eq0.field-0-is at c.in-Ok-Some-eq0.ensures in
    let r : HasRead now new name c.pieces.at c.in-Ok-Some-eq0.field-0-0 buf = record {
      goes_on = e.goes_on;
      same = e.same;
      counts = e.counts;
      no_change = e.no_change;
      kept = e.cause.kept;
      calm = e.cause.calm;
      bound = e.bound;
      told = e.told;
    } in
    let ended : HasEnded old new name j.bytes =
    has_ended list old now new name (given c.args.source.now) c.pieces.at (given c.pieces.source) (spot_of c.pieces.judge) buf j
    (subst (λ (n : ℕ). HasRead now new name c.pieces.at n buf) (omega arith) r) (grind (arith, common_steps)) in
    let fits : length j.bytes ≤ 2 ^ 43 = omega (arith, j.here, c.pieces.invariant.within) in
    let is : check list j.bytes ≡ c.verdict.result =
    decided_end list (given c.args.source.now) (given c.pieces.source) j.bytes (spot_of c.pieces.judge) c.verdict.result
    c.pieces.invariant.stands.no_lf j.goes c.verdict.ensures in
    end_of_bytes (2 ^ 43) list old new name j.bytes c.verdict.result fits ended is

pub returns-in-Ok-Some-eq0-clause-told : goal.returns-in-Ok-Some-eq0-clause-told
returns-in-Ok-Some-eq0-clause-told g c =
    let list = g.P.ClauseSource.list c.args.source.now in
    let given = g.P.ClauseSource.given in
    let old = g.S.Shelf.state c.args.shelf.now in
    let now = g.S.Shelf.state c.pieces.shelf in
    let new = g.S.Shelf.state c.read_at.new.self in
    let name = c.args.name.now in
    let buf = c.read_at.new.buf in
    let j = c.pieces.invariant.judged in
    let e = rw c.in-Ok-Some-eq0.field-0-is at c.in-Ok-Some-eq0.ensures in
    let r : HasRead now new name c.pieces.at c.in-Ok-Some-eq0.field-0-0 buf = record {
      goes_on = e.goes_on;
      same = e.same;
      counts = e.counts;
      no_change = e.no_change;
      kept = e.cause.kept;
      calm = e.cause.calm;
      bound = e.bound;
      told = e.told;
    } in
    let ended : HasEnded old new name j.bytes =
    has_ended list old now new name (given c.args.source.now) c.pieces.at (given c.pieces.source) (spot_of c.pieces.judge) buf j
    (subst (λ (n : ℕ). HasRead now new name c.pieces.at n buf) (omega arith) r) (grind (arith, common_steps)) in
    let fits : length j.bytes ≤ 2 ^ 43 = omega (arith, j.here, c.pieces.invariant.within) in
    let is : check list j.bytes ≡ c.verdict.result =
    decided_end list (given c.args.source.now) (given c.pieces.source) j.bytes (spot_of c.pieces.judge) c.verdict.result
    c.pieces.invariant.stands.no_lf j.goes c.verdict.ensures in
    end_told (2 ^ 43) list old new name j.bytes c.verdict.result fits ended is

pub returns-in-Ok-Some-eq0-clause-asks : goal.returns-in-Ok-Some-eq0-clause-asks
returns-in-Ok-Some-eq0-clause-asks g c =
    let list = g.P.ClauseSource.list c.args.source.now in
    let given = g.P.ClauseSource.given in
    let old = g.S.Shelf.state c.args.shelf.now in
    let now = g.S.Shelf.state c.pieces.shelf in
    let new = g.S.Shelf.state c.read_at.new.self in
    let name = c.args.name.now in
    let buf = c.read_at.new.buf in
    let j = c.pieces.invariant.judged in
    let e = rw c.in-Ok-Some-eq0.field-0-is at c.in-Ok-Some-eq0.ensures in
    let r : HasRead now new name c.pieces.at c.in-Ok-Some-eq0.field-0-0 buf = record {
      goes_on = e.goes_on;
      same = e.same;
      counts = e.counts;
      no_change = e.no_change;
      kept = e.cause.kept;
      calm = e.cause.calm;
      bound = e.bound;
      told = e.told;
    } in
    let ended : HasEnded old new name j.bytes =
    has_ended list old now new name (given c.args.source.now) c.pieces.at (given c.pieces.source) (spot_of c.pieces.judge) buf j
    (subst (λ (n : ℕ). HasRead now new name c.pieces.at n buf) (omega arith) r) (grind (arith, common_steps)) in
    let fits : length j.bytes ≤ 2 ^ 43 = omega (arith, j.here, c.pieces.invariant.within) in
    end_asks (2 ^ 43) list old new name j.bytes (spot_of c.pieces.judge) c.verdict.result (given c.args.source.now)
    (given c.pieces.source) fits ended j.goes c.verdict.ensures

pub returns-in-Ok-Some-eq0-clause-refuted : goal.returns-in-Ok-Some-eq0-clause-refuted
returns-in-Ok-Some-eq0-clause-refuted g c =
    refutes_none (2 ^ 43) (g.P.ClauseSource.list c.args.source.now) (g.S.Shelf.state c.args.shelf.now)
    (g.S.Shelf.state c.read_at.new.self) c.verdict.result (returns-in-Ok-Some-eq0-clause-of_bytes g c)

pub returns-in-Err-take-clause-asks : goal.returns-in-Err-take-clause-asks
returns-in-Err-take-clause-asks g c =
    let list = g.P.ClauseSource.list c.args.source.now in
    let given = g.P.ClauseSource.given in
    let old = g.S.Shelf.state c.args.shelf.now in
    let now = g.S.Shelf.state c.pieces.shelf in
    let new = g.S.Shelf.state c.read_at.new.self in
    let name = c.args.name.now in
    let buf = c.read_at.new.buf in
    let j = c.pieces.invariant.judged in
    let e = rw c.in-Ok-Some.field-0-is at c.in-Ok-Some.ensures in
    let r : HasRead now new name c.pieces.at c.in-Ok-Some.count buf = record {
      goes_on = e.goes_on;
      same = e.same;
      counts = e.counts;
      no_change = e.no_change;
      kept = e.cause.kept;
      calm = e.cause.calm;
      bound = e.bound;
      told = e.told;
    } in
    let within = c.min-within.result in
    let cut : within ≡ min (2 ^ 43 - c.pieces.at) c.in-Ok-Some.count = omega (arith, c.min-within.ensures) in
    let front : HasFront (2 ^ 43) old new name (j.bytes ++ take within buf) =
    has_front list old now new name (2 ^ 43) (given c.args.source.now) c.pieces.at c.in-Ok-Some.count within (given c.pieces.source)
    (spot_of c.pieces.judge) buf j r c.pieces.invariant.within cut in
    let stops : StopsIn list (spot_of c.pieces.judge) (given c.pieces.source) (take within buf) (given c.take.new.source) =
    subst (λ (cs : Clauses). StopsIn cs (spot_of c.pieces.judge) (given c.pieces.source) (take within buf) (given c.take.new.source))
    c.pieces.invariant.list c.in-Err-take.ensures.fails in
    stop_asks (2 ^ 43) list old new name (j.bytes ++ take within buf) (given c.args.source.now) (given c.take.new.source)
    fault.OutOfMemory front
    (goes_stops list at_start (spot_of c.pieces.judge) (given c.args.source.now) (given c.pieces.source) (given c.take.new.source)
    j.bytes (take within buf) j.goes stops)

pub returns-in-Ok-Some-take-clause-of_bytes : goal.returns-in-Ok-Some-take-clause-of_bytes
returns-in-Ok-Some-take-clause-of_bytes g c =
    let list = g.P.ClauseSource.list c.args.source.now in
    let given = g.P.ClauseSource.given in
    let old = g.S.Shelf.state c.args.shelf.now in
    let now = g.S.Shelf.state c.pieces.shelf in
    let new = g.S.Shelf.state c.read_at.new.self in
    let name = c.args.name.now in
    let buf = c.read_at.new.buf in
    let j = c.pieces.invariant.judged in
    let e = rw c.in-Ok-Some.field-0-is at c.in-Ok-Some.ensures in
    let r : HasRead now new name c.pieces.at c.in-Ok-Some.count buf = record {
      goes_on = e.goes_on;
      same = e.same;
      counts = e.counts;
      no_change = e.no_change;
      kept = e.cause.kept;
      calm = e.cause.calm;
      bound = e.bound;
      told = e.told;
    } in
    let within = c.min-within.result in
    let cut : within ≡ min (2 ^ 43 - c.pieces.at) c.in-Ok-Some.count = omega (arith, c.min-within.ensures) in
    let front : HasFront (2 ^ 43) old new name (j.bytes ++ take within buf) =
    has_front list old now new name (2 ^ 43) (given c.args.source.now) c.pieces.at c.in-Ok-Some.count within (given c.pieces.source)
    (spot_of c.pieces.judge) buf j r c.pieces.invariant.within cut in
    let t = rw c.in-Ok-Some-take.field-0-is at c.in-Ok-Some-take.ensures in
    let bad : Refuses list at_start (given c.args.source.now) (j.bytes ++ take within buf) c.in-Ok-Some-take.why c.lines.result
    (given c.take.new.source) =
    subst (λ (n : ℕ). Refuses list at_start (given c.args.source.now) (j.bytes ++ take within buf) c.in-Ok-Some-take.why n
    (given c.take.new.source)) (sym c.lines.ensures.count)
    (judged_bad list (spot_of c.pieces.judge) (spot_of c.take.new.self) (given c.args.source.now) (given c.pieces.source)
    (given c.take.new.source) j.bytes (take within buf) c.in-Ok-Some-take.why j.goes
    (subst (λ (cs : Clauses). Judges cs (spot_of c.pieces.judge) (given c.pieces.source) (take within buf) (Some c.in-Ok-Some-take.why)
    (spot_of c.take.new.self) (given c.take.new.source)) c.pieces.invariant.list t.judges)) in
    bad_of_bytes (2 ^ 43) list old new name (j.bytes ++ take within buf) (given c.args.source.now) (given c.take.new.source)
    c.lines.result c.in-Ok-Some-take.why front bad

pub returns-in-Ok-Some-take-clause-told : goal.returns-in-Ok-Some-take-clause-told
returns-in-Ok-Some-take-clause-told g c =
    let list = g.P.ClauseSource.list c.args.source.now in
    let given = g.P.ClauseSource.given in
    let old = g.S.Shelf.state c.args.shelf.now in
    let now = g.S.Shelf.state c.pieces.shelf in
    let new = g.S.Shelf.state c.read_at.new.self in
    let name = c.args.name.now in
    let buf = c.read_at.new.buf in
    let j = c.pieces.invariant.judged in
    let e = rw c.in-Ok-Some.field-0-is at c.in-Ok-Some.ensures in
    let r : HasRead now new name c.pieces.at c.in-Ok-Some.count buf = record {
      goes_on = e.goes_on;
      same = e.same;
      counts = e.counts;
      no_change = e.no_change;
      kept = e.cause.kept;
      calm = e.cause.calm;
      bound = e.bound;
      told = e.told;
    } in
    let within = c.min-within.result in
    let cut : within ≡ min (2 ^ 43 - c.pieces.at) c.in-Ok-Some.count = omega (arith, c.min-within.ensures) in
    let front : HasFront (2 ^ 43) old new name (j.bytes ++ take within buf) =
    has_front list old now new name (2 ^ 43) (given c.args.source.now) c.pieces.at c.in-Ok-Some.count within (given c.pieces.source)
    (spot_of c.pieces.judge) buf j r c.pieces.invariant.within cut in
    let t = rw c.in-Ok-Some-take.field-0-is at c.in-Ok-Some-take.ensures in
    let bad : Refuses list at_start (given c.args.source.now) (j.bytes ++ take within buf) c.in-Ok-Some-take.why c.lines.result
    (given c.take.new.source) =
    subst (λ (n : ℕ). Refuses list at_start (given c.args.source.now) (j.bytes ++ take within buf) c.in-Ok-Some-take.why n
    (given c.take.new.source)) (sym c.lines.ensures.count)
    (judged_bad list (spot_of c.pieces.judge) (spot_of c.take.new.self) (given c.args.source.now) (given c.pieces.source)
    (given c.take.new.source) j.bytes (take within buf) c.in-Ok-Some-take.why j.goes
    (subst (λ (cs : Clauses). Judges cs (spot_of c.pieces.judge) (given c.pieces.source) (take within buf) (Some c.in-Ok-Some-take.why)
    (spot_of c.take.new.self) (given c.take.new.source)) c.pieces.invariant.list t.judges)) in
    bad_told (2 ^ 43) list old new name (j.bytes ++ take within buf) (given c.args.source.now) (given c.take.new.source)
    c.lines.result c.in-Ok-Some-take.why front bad

pub returns-in-Ok-Some-take-clause-asks : goal.returns-in-Ok-Some-take-clause-asks
returns-in-Ok-Some-take-clause-asks g c =
    let list = g.P.ClauseSource.list c.args.source.now in
    let given = g.P.ClauseSource.given in
    let old = g.S.Shelf.state c.args.shelf.now in
    let now = g.S.Shelf.state c.pieces.shelf in
    let new = g.S.Shelf.state c.read_at.new.self in
    let name = c.args.name.now in
    let buf = c.read_at.new.buf in
    let j = c.pieces.invariant.judged in
    let e = rw c.in-Ok-Some.field-0-is at c.in-Ok-Some.ensures in
    let r : HasRead now new name c.pieces.at c.in-Ok-Some.count buf = record {
      goes_on = e.goes_on;
      same = e.same;
      counts = e.counts;
      no_change = e.no_change;
      kept = e.cause.kept;
      calm = e.cause.calm;
      bound = e.bound;
      told = e.told;
    } in
    let within = c.min-within.result in
    let cut : within ≡ min (2 ^ 43 - c.pieces.at) c.in-Ok-Some.count = omega (arith, c.min-within.ensures) in
    let front : HasFront (2 ^ 43) old new name (j.bytes ++ take within buf) =
    has_front list old now new name (2 ^ 43) (given c.args.source.now) c.pieces.at c.in-Ok-Some.count within (given c.pieces.source)
    (spot_of c.pieces.judge) buf j r c.pieces.invariant.within cut in
    let t = rw c.in-Ok-Some-take.field-0-is at c.in-Ok-Some-take.ensures in
    let bad : Refuses list at_start (given c.args.source.now) (j.bytes ++ take within buf) c.in-Ok-Some-take.why c.lines.result
    (given c.take.new.source) =
    subst (λ (n : ℕ). Refuses list at_start (given c.args.source.now) (j.bytes ++ take within buf) c.in-Ok-Some-take.why n
    (given c.take.new.source)) (sym c.lines.ensures.count)
    (judged_bad list (spot_of c.pieces.judge) (spot_of c.take.new.self) (given c.args.source.now) (given c.pieces.source)
    (given c.take.new.source) j.bytes (take within buf) c.in-Ok-Some-take.why j.goes
    (subst (λ (cs : Clauses). Judges cs (spot_of c.pieces.judge) (given c.pieces.source) (take within buf) (Some c.in-Ok-Some-take.why)
    (spot_of c.take.new.self) (given c.take.new.source)) c.pieces.invariant.list t.judges)) in
    bad_asks (2 ^ 43) list old new name (j.bytes ++ take within buf) (given c.args.source.now) (given c.take.new.source)
    c.lines.result c.in-Ok-Some-take.why front bad

pub returns-in-Ok-None-take-clause-of_bytes : goal.returns-in-Ok-None-take-clause-of_bytes
returns-in-Ok-None-take-clause-of_bytes g c =
    let list = g.P.ClauseSource.list c.args.source.now in
    let given = g.P.ClauseSource.given in
    let old = g.S.Shelf.state c.args.shelf.now in
    let now = g.S.Shelf.state c.pieces.shelf in
    let new = g.S.Shelf.state c.read_at.new.self in
    let name = c.args.name.now in
    let buf = c.read_at.new.buf in
    let j = c.pieces.invariant.judged in
    let e = rw c.in-Ok-Some.field-0-is at c.in-Ok-Some.ensures in
    let r : HasRead now new name c.pieces.at c.in-Ok-Some.count buf = record {
      goes_on = e.goes_on;
      same = e.same;
      counts = e.counts;
      no_change = e.no_change;
      kept = e.cause.kept;
      calm = e.cause.calm;
      bound = e.bound;
      told = e.told;
    } in
    let within = c.min-within.result in
    let cut : within ≡ min (2 ^ 43 - c.pieces.at) c.in-Ok-Some.count = omega (arith, c.min-within.ensures) in
    let t = rw c.in-Ok-None-take.field-0-is at c.in-Ok-None-take.ensures in
    let goes : Goes list (spot_of c.pieces.judge) (given c.pieces.source) (take within buf) (spot_of c.take.new.self)
    (given c.take.new.source) =
    subst (λ (cs : Clauses). Goes cs (spot_of c.pieces.judge) (given c.pieces.source) (take within buf) (spot_of c.take.new.self)
    (given c.take.new.source)) c.pieces.invariant.list t.judges in
    let stands : Stands list c.take.new.self (given c.take.new.source) =
    subst (λ (cs : Clauses). Stands cs c.take.new.self (given c.take.new.source)) c.pieces.invariant.list t.stands in
    let all = goes_then list at_start (spot_of c.pieces.judge) (spot_of c.take.new.self) (given c.args.source.now)
    (given c.pieces.source) (given c.take.new.source) j.bytes (take within buf) j.goes goes in
    let long : IsLong (2 ^ 43) old new name (j.bytes ++ take within buf) =
    is_long list old now new name (2 ^ 43) (given c.args.source.now) c.pieces.at c.in-Ok-Some.count within (given c.pieces.source)
    (spot_of c.pieces.judge) buf j r c.pieces.invariant.within cut (omega arith) in
    long_of_bytes (2 ^ 43) list old new name (j.bytes ++ take within buf) (spot_of c.take.new.self) (given c.args.source.now)
    (given c.take.new.source) long stands.no_lf all

pub returns-in-Ok-None-take-clause-told : goal.returns-in-Ok-None-take-clause-told
returns-in-Ok-None-take-clause-told g c =
    let list = g.P.ClauseSource.list c.args.source.now in
    let given = g.P.ClauseSource.given in
    let old = g.S.Shelf.state c.args.shelf.now in
    let now = g.S.Shelf.state c.pieces.shelf in
    let new = g.S.Shelf.state c.read_at.new.self in
    let name = c.args.name.now in
    let buf = c.read_at.new.buf in
    let j = c.pieces.invariant.judged in
    let e = rw c.in-Ok-Some.field-0-is at c.in-Ok-Some.ensures in
    let r : HasRead now new name c.pieces.at c.in-Ok-Some.count buf = record {
      goes_on = e.goes_on;
      same = e.same;
      counts = e.counts;
      no_change = e.no_change;
      kept = e.cause.kept;
      calm = e.cause.calm;
      bound = e.bound;
      told = e.told;
    } in
    let within = c.min-within.result in
    let cut : within ≡ min (2 ^ 43 - c.pieces.at) c.in-Ok-Some.count = omega (arith, c.min-within.ensures) in
    let t = rw c.in-Ok-None-take.field-0-is at c.in-Ok-None-take.ensures in
    let goes : Goes list (spot_of c.pieces.judge) (given c.pieces.source) (take within buf) (spot_of c.take.new.self)
    (given c.take.new.source) =
    subst (λ (cs : Clauses). Goes cs (spot_of c.pieces.judge) (given c.pieces.source) (take within buf) (spot_of c.take.new.self)
    (given c.take.new.source)) c.pieces.invariant.list t.judges in
    let stands : Stands list c.take.new.self (given c.take.new.source) =
    subst (λ (cs : Clauses). Stands cs c.take.new.self (given c.take.new.source)) c.pieces.invariant.list t.stands in
    let all = goes_then list at_start (spot_of c.pieces.judge) (spot_of c.take.new.self) (given c.args.source.now)
    (given c.pieces.source) (given c.take.new.source) j.bytes (take within buf) j.goes goes in
    let long : IsLong (2 ^ 43) old new name (j.bytes ++ take within buf) =
    is_long list old now new name (2 ^ 43) (given c.args.source.now) c.pieces.at c.in-Ok-Some.count within (given c.pieces.source)
    (spot_of c.pieces.judge) buf j r c.pieces.invariant.within cut (omega arith) in
    long_told (2 ^ 43) list old new name (j.bytes ++ take within buf) (spot_of c.take.new.self) (given c.args.source.now)
    (given c.take.new.source) long stands.no_lf all

pub returns-in-Ok-None-take-clause-asks : goal.returns-in-Ok-None-take-clause-asks
returns-in-Ok-None-take-clause-asks g c =
    let list = g.P.ClauseSource.list c.args.source.now in
    let given = g.P.ClauseSource.given in
    let old = g.S.Shelf.state c.args.shelf.now in
    let now = g.S.Shelf.state c.pieces.shelf in
    let new = g.S.Shelf.state c.read_at.new.self in
    let name = c.args.name.now in
    let buf = c.read_at.new.buf in
    let j = c.pieces.invariant.judged in
    let e = rw c.in-Ok-Some.field-0-is at c.in-Ok-Some.ensures in
    let r : HasRead now new name c.pieces.at c.in-Ok-Some.count buf = record {
      goes_on = e.goes_on;
      same = e.same;
      counts = e.counts;
      no_change = e.no_change;
      kept = e.cause.kept;
      calm = e.cause.calm;
      bound = e.bound;
      told = e.told;
    } in
    let within = c.min-within.result in
    let cut : within ≡ min (2 ^ 43 - c.pieces.at) c.in-Ok-Some.count = omega (arith, c.min-within.ensures) in
    let t = rw c.in-Ok-None-take.field-0-is at c.in-Ok-None-take.ensures in
    let goes : Goes list (spot_of c.pieces.judge) (given c.pieces.source) (take within buf) (spot_of c.take.new.self)
    (given c.take.new.source) =
    subst (λ (cs : Clauses). Goes cs (spot_of c.pieces.judge) (given c.pieces.source) (take within buf) (spot_of c.take.new.self)
    (given c.take.new.source)) c.pieces.invariant.list t.judges in
    let stands : Stands list c.take.new.self (given c.take.new.source) =
    subst (λ (cs : Clauses). Stands cs c.take.new.self (given c.take.new.source)) c.pieces.invariant.list t.stands in
    let all = goes_then list at_start (spot_of c.pieces.judge) (spot_of c.take.new.self) (given c.args.source.now)
    (given c.pieces.source) (given c.take.new.source) j.bytes (take within buf) j.goes goes in
    let long : IsLong (2 ^ 43) old new name (j.bytes ++ take within buf) =
    is_long list old now new name (2 ^ 43) (given c.args.source.now) c.pieces.at c.in-Ok-Some.count within (given c.pieces.source)
    (spot_of c.pieces.judge) buf j r c.pieces.invariant.within cut (omega arith) in
    long_asks (2 ^ 43) list old new name (j.bytes ++ take within buf) (spot_of c.take.new.self) (given c.args.source.now)
    (given c.take.new.source) long all

pub pieces-preserved : goal.pieces-preserved
pieces-preserved g c =
    let list = g.P.ClauseSource.list c.args.source.now in
    let given = g.P.ClauseSource.given in
    let old = g.S.Shelf.state c.args.shelf.now in
    let now = g.S.Shelf.state c.pieces.shelf in
    let new = g.S.Shelf.state c.read_at.new.self in
    let name = c.args.name.now in
    let buf = c.read_at.new.buf in
    let j = c.pieces.invariant.judged in
    let e = rw c.in-Ok-Some.field-0-is at c.in-Ok-Some.ensures in
    let r : HasRead now new name c.pieces.at c.in-Ok-Some.count buf = record {
      goes_on = e.goes_on;
      same = e.same;
      counts = e.counts;
      no_change = e.no_change;
      kept = e.cause.kept;
      calm = e.cause.calm;
      bound = e.bound;
      told = e.told;
    } in
    let within = c.min-within.result in
    let cut : within ≡ min (2 ^ 43 - c.pieces.at) c.in-Ok-Some.count = omega (arith, c.min-within.ensures) in
    let t = rw c.in-Ok-None-take.field-0-is at c.in-Ok-None-take.ensures in
    let goes : Goes list (spot_of c.pieces.judge) (given c.pieces.source) (take within buf) (spot_of c.take.new.self)
    (given c.take.new.source) =
    subst (λ (cs : Clauses). Goes cs (spot_of c.pieces.judge) (given c.pieces.source) (take within buf) (spot_of c.take.new.self)
    (given c.take.new.source)) c.pieces.invariant.list t.judges in
    let stands : Stands list c.take.new.self (given c.take.new.source) =
    subst (λ (cs : Clauses). Stands cs c.take.new.self (given c.take.new.source)) c.pieces.invariant.list t.stands in
    record {
      within = omega (arith, cut, c.pieces.invariant.within);
      list = c.take.ensures.list ∙ c.pieces.invariant.list;
      stands = stands;
      judged = judging_goes_on list old now new name (given c.args.source.now) c.pieces.at c.in-Ok-Some.count within
          (given c.pieces.source) (given c.take.new.source) (spot_of c.pieces.judge) (spot_of c.take.new.self) buf j r (omega arith) goes;
    }
