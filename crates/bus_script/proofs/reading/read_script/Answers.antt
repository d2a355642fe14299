use Rattle.std.proofs.Common.{ℕ, List, Result, Ok, Err, sym, subst}
use Rattle.std.specs.Prelude.{IfOk}
use Rattle.field_decl.specs.Results.{GivesText}
use Rattle.bus_script.specs.Script.{BusScript, script_of}
use Rattle.bus_script.specs.ScriptFits.{IsScriptFor}
use Rattle.bus_script.specs.declared.fault.ScriptKind.{ScriptKind}
use Rattle.field_decl.specs.declared.refusal.Refusal.{Refusal}
use Rattle.bus_script.proofs.ScriptFits.{script_fits}
use Rattle.bus_script.proofs.ScriptLaw.{script_is}
use Rattle.bus_script.proofs.reading.read_script.Goals as goal

-- what is read is the script, which fits
read_fits : (slices : ℕ) (bytes : List ℕ) (read : Result BusScript (Refusal ScriptKind))
    → GivesText (λ script. script) read (script_of slices bytes) → IfOk read (IsScriptFor slices)
read_fits slices bytes (Ok script) h =
    subst (λ (meant : Result BusScript (ℕ × ScriptKind)). IfOk meant (IsScriptFor slices)) h (script_fits slices bytes)
read_fits slices bytes (Err fault) h = tt

pub returns-clause-exact : goal.returns-clause-exact
returns-clause-exact c =
    subst (λ (meant : Result BusScript (ℕ × ScriptKind)). GivesText (λ script. script) c.take_lines.result meant)
    (sym (script_is c.args.slices c.args.bytes.now)) c.take_lines.ensures

pub returns-clause-fits : goal.returns-clause-fits
returns-clause-fits c =
    read_fits c.args.slices c.args.bytes.now c.take_lines.result
    (subst (λ (meant : Result BusScript (ℕ × ScriptKind)). GivesText (λ script. script) c.take_lines.result meant)
    (sym (script_is c.args.slices c.args.bytes.now)) c.take_lines.ensures)
