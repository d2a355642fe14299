use Rattle.micro_lex.proofs.LineCuts.{kept_goes, kept_stays, nothing_stays}
use Rattle.micro_lex.proofs.lines.kept_end.Goals as goal
use Rattle.micro_lex.proofs.lines.kept_end.Goals.{else-stop-start-via-then-stop-start+else-bytes-stop-eq13, else-stop-start-via-else-stop-start}

pub returns-then-bytes-stop-eq13-clause-kept : goal.returns-then-bytes-stop-eq13-clause-kept
returns-then-bytes-stop-eq13-clause-kept c =
    kept_goes c.args.bytes.now c.args.start c.args.stop c.if-stop-start.true c.requires.within c.if-bytes-stop-eq13.true

pub returns-else-stop-start-clause-kept : goal.returns-else-stop-start-clause-kept
returns-else-stop-start-clause-kept c = elim c.else-stop-start.branch [
  | else-stop-start-via-then-stop-start+else-bytes-stop-eq13 w ↦ kept_stays c.args.bytes.now c.args.start c.args.stop w.if-stop-start.true
      c.requires.within w.if-bytes-stop-eq13.false
  | else-stop-start-via-else-stop-start w ↦ nothing_stays c.args.bytes.now c.args.start c.args.stop w.if-stop-start.false
]
