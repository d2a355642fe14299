use Rattle.std.proofs.Common.{◌++◌, arith}
use Rattle.bus_script.specs.TraceLine.{hex_digits}
use Rattle.bus_script.proofs.TraceDigits.{hex_turn}
use Rattle.bus_script.proofs.digits.add_hex.Goals as goal

pub loop-place-preserved : goal.loop-place-preserved
loop-place-preserved c = record {
  so_far = hex_turn c.loop-place.line.items c.push.new.self.items (c.args.line.now.items ++ hex_digits c.args.digits c.args.word)
      c.loop-place.place c.args.word c.hex_digit.result c.loop-place-test.true c.push.ensures.items c.hex_digit.ensures
      c.loop-place.invariant.so_far;
  len = omega (arith, c.push.ensures.len, c.loop-place.invariant.len, c.loop-place-test.true);
}
