-- The program of a case has 8 slices, for which the script was read.
use Rattle.std.proofs.Common.{◌≡◌, ℕ, rules, ap, sym, subst, ◌∙◌}
use Rattle.flow_graph.specs.Graph.{Graph, graph_of}
use Rattle.bus_script.specs.Script.{BusScript}
use Rattle.bus_script.specs.ScriptFits.{IsScriptFor}
use Rattle.gen_case.specs.CaseProgram.{case_graph}
use Rattle.gen_case.proofs.read_cases.read_case.Goals as goal

-- a script for 8 slices is one for the program of a case
for_case : (g : Graph) (number : ℕ) (said : BusScript) → g ≡ case_graph number → IsScriptFor 8 said → IsScriptFor g.decl.slices said
unfolding case_graph
for_case g number said same fits = subst (λ (n : ℕ). IsScriptFor n said) (sym (ap (λ (h : Graph). h.decl.slices) same)) fits

pub returns-clause-fits : goal.returns-clause-fits
returns-clause-fits c =
    let same : graph_of c.in-Ok.program ≡ case_graph c.args.number = search rules in
    for_case (graph_of c.in-Ok.program) c.args.number c.in-Ok-read_script.script same c.in-Ok-read_script.ensures.fits
