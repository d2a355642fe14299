use Rattle.std.proofs.Common.{◌≡◌, ◌-◌, ◌+◌, ◌∙◌, length, length-append, ap, sym}
use Rattle.clause_base.specs.Clauses.{Clauses}
use Rattle.refute_check.proofs.KnownLemmas.{table_push}
use Rattle.refute_check.proofs.known_clauses.KnownClauses.keep.Goals as goal

pub returns-clause-ok : goal.returns-clause-ok
returns-clause-ok c =
    let i = c.self.inside in
    let added = ap (λ (l : Clauses). l.clauses) c.in_ok-add.ensures.ok in
    let size : length c.add.new.self.clauses ≡ length i.asked.clauses + 1 = ap length added ∙ length-append i.asked.clauses _ in
    let place : c.len-2.result ≡ length i.asked.clauses + 1 = c.len-2.ensures ∙ size in
    rw (added, ← c.self.view_is)
    ((λ j. record {
      vars = i.derived.vars;
      asked = table_push i.places.items i.asked.clauses c.args.clause.now (c.args.number - 1)
          c.len-2.result c.self.invariant.within place j;
      count = (sym (ap length added) ∙ size) j;
      derived = i.derived.clauses;
    }))
