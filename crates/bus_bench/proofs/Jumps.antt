-- What a jump does by its code is what a flow statement that admits it asks for by its kind.
use Rattle.std.proofs.Common.{◌≡◌, ℕ, ◌==◌, ◌<◌, Bool, true, false, sym, subst, refl, arith}
use Rattle.std.proofs.lemmas.Bool.{eq-eqb}
use Rattle.std.proofs.lemmas.Bool.Decides.{nat_tests}
use Rattle.mcu_jumps.specs.declared.codes.Code.{Code}
use Rattle.mcu_jumps.specs.declared.codes.Code.TheVariants as code
use Rattle.mcu_jumps.specs.declared.kinds.Kind.{Kind}
use Rattle.mcu_jumps.specs.declared.kinds.Kind.TheVariants as kind
use Rattle.mcu_jumps.specs.Position.{Position, IsCell}
use Rattle.mcu_jumps.specs.JumpWord.{JumpWord, IsJump, operand_count}
use Rattle.mcu_jumps.specs.Landing.{Admits, outcomes_of}
use Rattle.mcu_jumps.specs.NextAddress.{bit, row_after, col_after, tested, outcome_count, lands}
use Rattle.mcu_jumps.specs.Readings.{Readings}
use Rattle.mcu_chip.specs.FlagStep.{next_pr, is_strobe, pr_shown}
use Rattle.flow_sim.specs.Flow as flow

-- the same outcome, latch, strobe and latch outputs, and as many outcomes
pub record Agrees (kind : Kind) (jump : JumpWord) (readings : Readings) (sx : ℕ) : Type 0 where
  pub outcome : tested jump.code readings ≡ flow.outcome_of kind readings
  pub latch : next_pr jump.code readings.pr sx ≡ flow.latch_by kind readings.pr sx
  pub strobe : is_strobe jump.code jump.operand ≡ flow.is_strobe kind
  pub shown : pr_shown jump.code readings.pr ≡ flow.shown_by kind readings.pr
  pub count : outcome_count jump.code ≡ outcomes_of kind

-- the same for each jump of one code
agrees_by : (kind : Kind) (c : Code) (jump : JumpWord) (readings : Readings) (sx : ℕ) → jump.code ≡ c
    → Agrees kind (record { code = c; operand = jump.operand }) readings sx → Agrees kind jump readings sx
agrees_by kind c jump readings sx e h =
    subst (λ (d : Code). Agrees kind (record { code = d; operand = jump.operand }) readings sx) (sym e) h

not_fifteen : (d : ℕ) → d < 15 → (d == 15) ≡ false
not_fifteen d h = grind (arith, nat_tests)

goto_agrees : (c : Code) (d : ℕ) (readings : Readings) (sx : ℕ) → Admits kind.Goto (record { code = c; operand = d })
    → Agrees kind.Goto (record { code = c; operand = d }) readings sx
goto_agrees code.Jcc d readings sx h = record { outcome = refl; latch = refl; strobe = refl; shown = refl; count = refl }
goto_agrees code.Jcr d readings sx h = record { outcome = refl; latch = refl; strobe = refl; shown = refl; count = refl }
goto_agrees code.Jzr d readings sx h = record { outcome = refl; latch = refl; strobe = not_fifteen d h; shown = refl; count = refl }
goto_agrees _ d readings sx h = absurd h

pub agrees : (kind : Kind) (jump : JumpWord) (readings : Readings) (sx : ℕ) → Admits kind jump → Agrees kind jump readings sx
agrees kind.Goto jump readings sx h = goto_agrees jump.code jump.operand readings sx h
agrees kind.Strobe jump readings sx h =
    agrees_by kind.Strobe code.Jzr jump readings sx h.0
    (record { outcome = refl; latch = refl; strobe = eq-eqb jump.operand 15 h.1; shown = refl; count = refl })
agrees kind.Enable jump readings sx h =
    agrees_by kind.Enable code.Jce jump readings sx h (record { outcome = refl; latch = refl; strobe = refl; shown = refl; count = refl })
agrees kind.IfF jump readings sx h =
    agrees_by kind.IfF code.Jfl jump readings sx h (record { outcome = refl; latch = refl; strobe = refl; shown = refl; count = refl })
agrees kind.IfC jump readings sx h =
    agrees_by kind.IfC code.Jcf jump readings sx h (record { outcome = refl; latch = refl; strobe = refl; shown = refl; count = refl })
agrees kind.IfZ jump readings sx h =
    agrees_by kind.IfZ code.Jzf jump readings sx h (record { outcome = refl; latch = refl; strobe = refl; shown = refl; count = refl })
agrees kind.OnPr jump readings sx h =
    agrees_by kind.OnPr code.Jpr jump readings sx h (record { outcome = refl; latch = refl; strobe = refl; shown = refl; count = refl })
agrees kind.OnPx jump readings sx h =
    agrees_by kind.OnPx code.Jpx jump readings sx h (record { outcome = refl; latch = refl; strobe = refl; shown = refl; count = refl })
agrees kind.OnLeft jump readings sx h =
    agrees_by kind.OnLeft code.Jll jump readings sx h (record { outcome = refl; latch = refl; strobe = refl; shown = refl; count = refl })
agrees kind.OnRight jump readings sx h =
    agrees_by kind.OnRight code.Jrl jump readings sx h
    (record { outcome = refl; latch = refl; strobe = refl; shown = refl; count = refl })

bit_below : (b : Bool) → bit b < 2
bit_below true = omega arith
bit_below false = omega arith

-- the outcome is one of the statement's
pub outcome_below : (kind : Kind) (readings : Readings) → readings.pr < 16 → readings.px < 16
    → flow.outcome_of kind readings < outcomes_of kind
outcome_below kind.IfF readings pr px = bit_below readings.f
outcome_below kind.IfC readings pr px = bit_below readings.c
outcome_below kind.IfZ readings pr px = bit_below readings.z
outcome_below _ readings pr px = omega arith

-- the latch keeps four bits
pub latch_below : (kind : Kind) (pr sx : ℕ) → pr < 16 → sx < 16 → flow.latch_by kind pr sx < 16
latch_below kind.OnPx pr sx pr_in sx_in = sx_in
latch_below _ pr sx pr_in sx_in = pr_in

row_below : (c : Code) (r d : ℕ) → r < 32 → d < operand_count c → row_after c r d < 32
row_below code.Jcc r d r_in d_in = omega arith
row_below _ r d r_in d_in = omega arith

col_below : (c : Code) (col d v : ℕ) → col < 16 → d < operand_count c → v < outcome_count c → col_after c col d v < 16
col_below code.Jcc col d v col_in d_in v_in = omega arith
col_below _ col d v col_in d_in v_in = omega arith

-- a jump from a cell lands on a cell
pub lands_in : (from : Position) (jump : JumpWord) (v : ℕ) → IsCell from → IsJump jump → v < outcome_count jump.code
    → IsCell (lands from jump v)
lands_in from jump v cell in_range v_in = record {
  row = row_below jump.code from.row jump.operand cell.row in_range;
  col = col_below jump.code from.col jump.operand v cell.col in_range v_in;
}
