use Rattle.std.proofs.Common.{◌≡◌, ◌∙◌, ◌+◌, ℕ, false, List, Option, Some, length, sym, ap, subst}
use Rattle.clause_base.specs.Clauses.{Clauses}
use Rattle.ref_text.specs.declared.why.Why.{Why}
use Rattle.refute_check.specs.Check.{check}
use Rattle.refute_check.specs.Judging.{spot_of, Stands, StandsAfter, Goes, Judges}
use Rattle.refute_check.specs.declared.checked.Checked.{Checked}
use Rattle.refute_check.specs.declared.checked.Checked.TheVariants as checked
use Rattle.refute_check.proofs.CheckLemmas.{refuted_fails}
use Rattle.refute_check.proofs.DecidingLemmas.{bad_facts, end_facts}
use Rattle.refute_check.proofs.lines.check_bytes.Goals as goal

-- an answer over a list that is the same
answer_is : (a b : Clauses) (bytes : List ℕ) (answer : Checked) → a ≡ b → Some (check a bytes) ≡ Some answer → answer ≡ check b bytes
answer_is a b bytes answer same e =
    let is : check a bytes ≡ answer = cc in
    sym is ∙ ap (λ (l : Clauses). check l bytes) same

pub returns-in-Some-clause-told : goal.returns-in-Some-clause-told
returns-in-Some-clause-told c =
    let list = c.new-source.result.list.now in
    let j = c.in_ok-judge.judge in
    let new = c.take.new.self in
    let judges : Judges list (spot_of j) c.new-source.result.given c.args.bytes.now (Some c.in-Some.why) (spot_of new)
    c.take.new.source.given =
    subst (λ (o : Option Why). Judges list (spot_of j) c.new-source.result.given c.args.bytes.now o (spot_of new) c.take.new.source.given)
    c.in-Some.is c.in_ok-why.ensures.judges in
    let f = bad_facts list (spot_of j) (spot_of new)
    c.new-source.result.given c.take.new.source.given c.args.bytes.now c.in-Some.why false c.in_ok-judge.ensures.start judges in
    ap (λ (n : ℕ). checked.Rejected (n + 1) c.in-Some.why) c.lines.ensures.count
    ∙ answer_is list c.args.list c.args.bytes.now (checked.Rejected (length new.known.derived + 1) c.in-Some.why)
    c.new-source.ensures.list f.0

pub returns-in-Some-clause-refuted : goal.returns-in-Some-clause-refuted
returns-in-Some-clause-refuted c = λ k is values all. cc

pub verdict-requires-clause-failed : goal.verdict-requires-clause-failed
verdict-requires-clause-failed c =
    let s : Stands c.new-source.result.list.now c.take.new.self c.take.new.source.given =
    subst (λ (o : Option Why). StandsAfter c.new-source.result.list.now o c.take.new.self c.take.new.source.given)
    c.in-None.is c.in_ok-why.ensures.stands in s.failed

pub verdict-requires-clause-bad : goal.verdict-requires-clause-bad
verdict-requires-clause-bad c =
    let s : Stands c.new-source.result.list.now c.take.new.self c.take.new.source.given =
    subst (λ (o : Option Why). StandsAfter c.new-source.result.list.now o c.take.new.self c.take.new.source.given)
    c.in-None.is c.in_ok-why.ensures.stands in s.bad

pub verdict-requires-clause-counted : goal.verdict-requires-clause-counted
verdict-requires-clause-counted c =
    let s : Stands c.new-source.result.list.now c.take.new.self c.take.new.source.given =
    subst (λ (o : Option Why). StandsAfter c.new-source.result.list.now o c.take.new.self c.take.new.source.given)
    c.in-None.is c.in_ok-why.ensures.stands in s.counted

pub returns-clause-told : goal.returns-clause-told
returns-clause-told c =
    let list = c.new-source.result.list.now in
    let j = c.in_ok-judge.judge in
    let new = c.take.new.self in
    let s : Stands list new c.take.new.source.given =
    subst (λ (o : Option Why). StandsAfter list o new c.take.new.source.given) c.in-None.is c.in_ok-why.ensures.stands in
    let goes : Goes list (spot_of j) c.new-source.result.given c.args.bytes.now (spot_of new) c.take.new.source.given =
    subst (λ (o : Option Why). Judges list (spot_of j) c.new-source.result.given c.args.bytes.now o (spot_of new) c.take.new.source.given)
    c.in-None.is c.in_ok-why.ensures.judges in
    let f = end_facts list (spot_of j) (spot_of new)
    c.new-source.result.given c.take.new.source.given c.args.bytes.now c.verdict.result c.in_ok-judge.ensures.start goes s.no_lf
    c.verdict.ensures in
    answer_is list c.args.list c.args.bytes.now c.verdict.result c.new-source.ensures.list (ap Some f.0)

pub returns-clause-refuted : goal.returns-clause-refuted
returns-clause-refuted c = λ k is values all. refuted_fails values c.args.list c.args.bytes.now k (sym (returns-clause-told c) ∙ is) all
