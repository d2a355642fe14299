use Rattle.std.proofs.Common.{length, ◌-◌, ◌≡◌, ◌≤◌, drop, false, All}
use Rattle.micro_lex.specs.Names.{IsTokenOf}
use Rattle.micro_lex.specs.Tokens.{with_front, tokens_of}
use Rattle.micro_lex.proofs.Scan.{scan}
use Rattle.micro_lex.proofs.line_tokens.tokens.Given as goal

abbrev pub invariant-loop-at : goal.invariant-loop-at
invariant-loop-at l =
    record {
      within : l.at ≤ length l.line;
      spans : All (IsTokenOf l.line) l.found.items;
      so_far : with_front l.found.items (scan false l.at (drop l.at l.line)) ≡ tokens_of l.line;
    }

abbrev pub decreases-loop-at : goal.decreases-loop-at
decreases-loop-at l = length l.line - l.at
