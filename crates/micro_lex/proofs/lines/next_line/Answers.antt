use Rattle.std.proofs.Common.{arith}
use Rattle.micro_lex.proofs.LineCuts.{line_cut, line_ended}
use Rattle.micro_lex.proofs.lines.next_line.Goals as goal

pub returns-clause-some : goal.returns-clause-some
returns-clause-some c = record {
  start = omega arith;
  ordered = c.kept_end-end.ensures.from;
  within = omega arith;
  goes_on = omega arith;
  after = omega arith;
  ended = line_ended c.args.bytes.now c.args.at c.piece_end-stop.result c.min-after.result (omega arith)
      c.piece_end-stop.ensures.end c.piece_end-stop.ensures.within c.min-after.ensures;
  cut = line_cut c.args.bytes.now c.args.at c.piece_end-stop.result c.kept_end-end.result c.min-after.result (omega arith)
      c.piece_end-stop.ensures.end c.piece_end-stop.ensures.within c.kept_end-end.ensures.kept c.min-after.ensures;
}
