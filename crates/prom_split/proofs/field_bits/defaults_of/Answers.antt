use Rattle.std.proofs.Common.{ℕ, List, ◌≡◌, sym, subst, arith}
use Rattle.std.proofs.lemmas.Grind.{common_steps}
use Rattle.flow_graph.specs.Microwords.{AreValues}
use Rattle.flow_graph.specs.Order.{defaults_of}
use Rattle.prom_split.proofs.FieldBits.{defaults_few, defaults_held}
use Rattle.prom_split.proofs.field_bits.defaults_of.Goals as goal

pub push-requires : goal.push-requires
push-requires c = defaults_few c.args.fields.now c.loop-field.field-index c.loop-field.values c.requires.sized c.requires.narrow
    (omega arith) c.loop-field.invariant

pub returns-clause-held : goal.returns-clause-held
returns-clause-held c =
    let all : c.loop-field.values ≡ defaults_of c.args.fields.now = grind (arith, common_steps) in
    subst (λ (values : List ℕ). AreValues c.args.fields.now values) (sym all) (defaults_held c.args.fields.now c.requires.sized)
