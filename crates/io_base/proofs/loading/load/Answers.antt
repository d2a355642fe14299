use Rattle.std.proofs.Common.{arith, ◌≡◌, ◌++◌, ◌≤◌, take, length, length-append}
use Rattle.std.proofs.lemmas.Grind.{common_steps}
use Rattle.std.proofs.lemmas.List.{length-take-le}
use Rattle.io_base.proofs.LoadSteps.{loading_starts, loading_goes_on}
use Rattle.io_base.proofs.loading.load.Goals as goal

pub pieces-init : goal.pieces-init
pieces-init g c = record { so_far = loading_starts _ _ _ c.new-bytes.ensures.items; fits = rw c.new-bytes.ensures.items (omega arith) }

pub pieces-preserved : goal.pieces-preserved
pieces-preserved g c =
    let e = rw c.in-Ok-Some.field-0-is at c.in-Ok-Some.ensures in
    let more : c.extend_from_slice.new.self.items ≡ c.pieces.bytes.items ++ take c.in-Ok-Some.count c.read_at.new.buf =
    grind (arith, common_steps) in
    let here : c.len-at.result ≡ length c.pieces.bytes.items = grind (arith, common_steps) in
    let within : c.in-Ok-Some.count ≤ length c.read_at.new.buf = e.bound in
    record {
      so_far = loading_goes_on _ _ _ _ _ _ _ _ _ here c.pieces.invariant.so_far e.goes_on e.same e.counts e.no_change e.cause.kept
          e.cause.calm within e.told more;
      fits = rw more (omega (
        arith,
        length-append c.pieces.bytes.items (take c.in-Ok-Some.count c.read_at.new.buf),
        length-take-le c.in-Ok-Some.count c.read_at.new.buf within,
      ));
    }
