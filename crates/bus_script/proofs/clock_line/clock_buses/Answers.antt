use Rattle.std.proofs.Common.{◌≡◌, arith, ◌∙◌, Ok, Err}
use Rattle.std.proofs.lemmas.Grind.{common_steps}
use Rattle.bus_script.specs.SettingSteps.{clock_steps}
use Rattle.bus_script.proofs.GivenSettings.{clock_by_steps}
use Rattle.bus_script.proofs.clock_line.clock_buses.Goals as goal

pub returns-in-Ok : goal.returns-in-Ok
returns-in-Ok c =
    let steps : clock_steps c.args.slices c.args.words.now ≡ Ok c.buses.result = grind (arith, common_steps) in
    clock_by_steps c.args.slices c.args.words.now ∙ steps

pub returns : goal.returns
returns c =
    let steps : clock_steps c.args.slices c.args.words.now ≡ Err c.in-Err.kind = grind (arith, common_steps) in
    clock_by_steps c.args.slices c.args.words.now ∙ steps
