-- The texts are those of the number, and so they are accepted.
use Rattle.std.proofs.Common.{ℕ, List, length, ◌≤◌, ap, sym, subst, ◌∙◌}
use Rattle.micro_asm.specs.Source.{source_of}
use Rattle.bus_script.specs.Script.{script_of}
use Rattle.gen_case.specs.Draws.{state_after}
use Rattle.gen_case.specs.ScriptText.{script_from}
use Rattle.gen_case.proofs.CaseLengths.{source_short, script_short}
use Rattle.gen_case.proofs.CaseLegal.{case_is_legal}
use Rattle.gen_case.proofs.ScriptAccepted.{script_accepted}
use Rattle.gen_case.proofs.SourceAccepted.{source_accepted}
use Rattle.gen_case.proofs.cases.make_case.Goals as goal

pub returns-clause-accepted : goal.returns-clause-accepted
returns-clause-accepted c = ap source_of c.in_ok-source.ensures.text ∙ source_accepted c.args.number

pub returns-clause-script_accepted : goal.returns-clause-script_accepted
returns-clause-script_accepted c =
    ap (script_of 8) (c.in_ok-script.ensures ∙ ap script_from c.in_ok-source.ensures.state)
    ∙ script_accepted (state_after c.args.number 640)

pub returns-clause-source_short : goal.returns-clause-source_short
returns-clause-source_short c =
    subst (λ (text : List ℕ). length text ≤ 1048576) (sym c.in_ok-source.ensures.text) (source_short c.args.number)

pub returns-clause-script_short : goal.returns-clause-script_short
returns-clause-script_short c =
    subst (λ (text : List ℕ). length text ≤ 4194304) (sym (c.in_ok-script.ensures ∙ ap script_from c.in_ok-source.ensures.state))
    (script_short (state_after c.args.number 640))

-- the placement is legal whether memory was wanting or not
pub returns-clause-legal : goal.returns-clause-legal
returns-clause-legal c = case_is_legal c.args.number

pub returns-in_err-source-clause-legal : goal.returns-in_err-source-clause-legal
returns-in_err-source-clause-legal c = case_is_legal c.args.number

pub returns-in_err-script-clause-legal : goal.returns-in_err-script-clause-legal
returns-in_err-script-clause-legal c = case_is_legal c.args.number
