use Rattle.std.proofs.Common.{arith, ap, ◌∙◌, Result, Ok, Option}
use Rattle.std.proofs.lemmas.List.Elements.{All-nil}
use Rattle.std.proofs.lemmas.Result.{err_from_is_err_and}
use Rattle.micro_lex.specs.declared.token.Token.{Token}
use Rattle.micro_lex.specs.Faults.{Fault}
use Rattle.micro_lex.specs.Tokens.{tokens_of}
use Rattle.micro_lex.proofs.Steps.{over_gap, over_token, at_fault, is_done, is_cut, token_lies, spans_push, begun}
use Rattle.micro_lex.proofs.line_tokens.tokens.Goals as goal
use Rattle.micro_lex.proofs.line_tokens.tokens.Goals.{then-loop-at-test+else-line-at-ne35, else-loop-at-test}

abbrev reading : Option Token → Result (Option Token) Fault
reading token = Ok token

pub loop-at-init : goal.loop-at-init
loop-at-init c = record {
  within = omega arith;
  spans = rw c.new-found.ensures.items (All-nil _);
  so_far = rw c.new-found.ensures.items (begun c.args.line.now);
}

pub loop-at-smaller-in-Some : goal.loop-at-smaller-in-Some
loop-at-smaller-in-Some c =
    let lies = token_lies c.args.line.now c.loop-at.at c.in-Some.token c.loop-at-test.true
    (c.in_ok-token.ensures ∙ ap reading c.in-Some.is) in
    omega (arith, lies.goes_on)

pub loop-at-preserved-in-Some : goal.loop-at-preserved-in-Some
loop-at-preserved-in-Some c =
    let is = c.in_ok-token.ensures ∙ ap reading c.in-Some.is in
    let lies = token_lies c.args.line.now c.loop-at.at c.in-Some.token c.loop-at-test.true is in
    record {
      within = lies.lies.within;
      spans = rw c.in_ok-push-in-Some.ensures.items
          (spans_push c.args.line.now c.loop-at.found.items c.in-Some.token c.loop-at.invariant.spans lies.lies);
      so_far = rw c.in_ok-push-in-Some.ensures.items
          (over_token c.loop-at.found.items c.args.line.now c.loop-at.at c.in-Some.token (tokens_of c.args.line.now)
          c.loop-at-test.true c.if-line-at-ne35.true is c.loop-at.invariant.so_far);
    }

pub loop-at-preserved : goal.loop-at-preserved
loop-at-preserved c = record {
  within = omega arith;
  spans = c.loop-at.invariant.spans;
  so_far = over_gap c.loop-at.found.items c.args.line.now c.loop-at.at (tokens_of c.args.line.now)
      c.loop-at-test.true c.if-line-at-ne35.true (c.in_ok-token.ensures ∙ ap reading c.in-None.is) c.loop-at.invariant.so_far;
}

pub returns-in_err-token-clause-exact : goal.returns-in_err-token-clause-exact
returns-in_err-token-clause-exact c =
    let same = err_from_is_err_and c.from_residual.result c.from_residual.ensures.1 in
    rw (same.1, same.2) (at_fault c.loop-at.found.items c.args.line.now c.loop-at.at c.in_err-token.field-0.0 (tokens_of c.args.line.now)
    c.loop-at-test.true c.if-line-at-ne35.true c.loop-at.invariant.so_far c.in_err-token.ensures)

pub returns-clause-exact : goal.returns-clause-exact
returns-clause-exact c = elim c.loop-at-test.branch [
  | then-loop-at-test+else-line-at-ne35 w ↦ is_cut c.loop-at.found.items c.args.line.now c.loop-at.at (tokens_of c.args.line.now)
      w.loop-at-test.true w.if-line-at-ne35.false c.loop-at.invariant.so_far
  | else-loop-at-test w ↦ is_done c.loop-at.found.items c.args.line.now c.loop-at.at (tokens_of c.args.line.now)
      w.loop-at-test.false c.loop-at.invariant.so_far
]
