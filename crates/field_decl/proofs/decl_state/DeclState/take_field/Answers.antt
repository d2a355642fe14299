use Rattle.std.proofs.Common.{◌∙◌, sym, subst, ap, List, arith}
use Rattle.std.specs.Prelude.{unwrap_or}
use Rattle.field_decl.specs.declared.field.Field.{Field}
use Rattle.field_decl.specs.Earlier.{Declared, IsSound}
use Rattle.field_decl.specs.Fields.{word_bits}
use Rattle.field_decl.proofs.Sound.{sound_field, shifted_fits}
use Rattle.field_decl.proofs.decl_state.DeclState.take_field.Goals as goal

pub invariant_of-self : goal.invariant_of-self
invariant_of-self c =
    subst (λ (fields : List Field). IsSound
    (record {
      slices = c.self.inside.slices;
      kbus = c.self.inside.kbus;
      fields = fields;
      prom = c.self.inside.prom;
      write = c.self.inside.write;
    })) (sym c.in_err-push.ensures.unchanged) c.self.invariant

pub invariant_of-self-2 : goal.invariant_of-self-2
invariant_of-self-2 c =
    subst (λ (fields : List Field). IsSound
    (record {
      slices = c.self.inside.slices;
      kbus = c.self.inside.kbus;
      fields = fields;
      prom = c.self.inside.prom;
      write = c.self.inside.write;
    })) (sym c.in_ok-push.ensures.added)
    (sound_field c.self.inside.slices c.self.inside.kbus c.self.inside.fields c.self.inside.prom c.self.inside.write
    (record { name = c.args.name; width = c.args.width; default = c.args.default }) c.self.invariant
    c.push.ensures.named (sym c.has.ensures ∙ c.if-has.false) (omega arith) (omega arith)
    (shifted_fits c.args.default c.args.width (omega arith) c.if-default-width.false)
    (omega (
      arith,
      c.word_bits.ensures.bits,
      c.if-word_bits-width-gt96.false,
      ap (λ (d : Declared). word_bits (unwrap_or d.kbus 1) d.fields) c.self.view_is,
    )))
