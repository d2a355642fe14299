-- The line at hand is the first of those that are left.
use Rattle.std.proofs.Common.{◌≡◌, ◌∙◌, ℕ, ◌+◌, List, [], ◌∷◌, drop, Result, sym, ap, subst}
use Rattle.std.specs.Prelude.{slice_range}
use Rattle.micro_lex.specs.Lines.{lines}
use Rattle.field_decl.specs.declared.fault.AsmKind.{AsmKind}
use Rattle.field_decl.specs.declared.refusal.Refusal.{Refusal}
use Rattle.micro_asm.specs.Earlier.{Facts, facts_of}
use Rattle.field_decl.specs.Results.{RefusesAt, fault_at}
use Rattle.field_decl.proofs.LineByLine.{refused_line}
use Rattle.micro_asm.specs.SourceSteps.{after_line, after_lines}
use Rattle.micro_asm.proofs.source.take_lines.Goals as goal

pub returns-in-Err : goal.returns-in-Err
returns-in-Err c =
    let bytes : List ℕ = c.args.bytes.now in
    let number : ℕ = c.loop-span.number + 1 in
    let line : List ℕ = slice_range bytes c.in-Some.span.start c.in-Some.span.end in
    let rest : List (List ℕ) = lines (drop c.in-Some.span.after bytes) in
    let cut : lines (drop c.loop-span.at bytes) ≡ line ∷ rest = c.in-Some.ensures.some.cut in
    let meant : after_lines c.loop-span.state number (line ∷ rest) ≡ after_lines (facts_of []) 1 (lines bytes) =
    ap (after_lines c.loop-span.state number) (sym cut) ∙ c.loop-span.invariant.so_far in
    let refused : RefusesAt (fault_at number c.in-Err.fault) (after_lines c.loop-span.state number (line ∷ rest)) =
    refused_line after_line c.in-Err.fault c.loop-span.state number line rest c.in-Err.ensures in
    subst (λ (fault : Refusal AsmKind). RefusesAt fault (after_lines (facts_of []) 1 (lines bytes))) (sym c.fault_at.ensures)
    (subst (λ (said : Result Facts (ℕ × AsmKind)). RefusesAt (fault_at number c.in-Err.fault) said) meant refused)
