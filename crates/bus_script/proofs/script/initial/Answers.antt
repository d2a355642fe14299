use Rattle.std.proofs.Common.{ℕ, Option, ◌<◌, ◌^◌, ◌∙◌, sym, subst}
use Rattle.std.specs.Prelude.{IfSome}
use Rattle.bus_script.proofs.ScriptFits.{named_fits, some_words}
use Rattle.bus_script.proofs.script.initial.Goals as goal

pub returns-in-Some-clause-fits : goal.returns-in-Some-clause-fits
returns-in-Some-clause-fits c = λ slices h.
    subst (λ (named : Option ℕ). IfSome named (λ value. value < 4 ^ slices)) (sym c.value_at.ensures ∙ c.in-Some.is)
    (named_fits slices c.args.script.now c.args.address h)

pub returns-in-None-clause-fits : goal.returns-in-None-clause-fits
returns-in-None-clause-fits c = λ slices _. some_words slices
