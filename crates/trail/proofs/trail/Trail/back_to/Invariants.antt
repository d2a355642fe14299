use Rattle.std.proofs.Common.{◌≡◌, ◌<◌, ◌≤◌, ◌^◌, length, take, filter, vec_len, vec_capacity}
use Rattle.std.specs.Prelude.{nat_le}
use Rattle.trail.specs.Assignment.{level_of}
use Rattle.trail.specs.Kept.{AreKept}
use Rattle.trail.proofs.trail.Trail.back_to.Given as goal

abbrev pub invariant-undo : goal.invariant-undo
invariant-undo l =
    let t = l.self-inside in
    let first = l.initial.self-inside.entries.items in
    record {
      few : t.vars < 2 ^ 31;
      same : t.vars ≡ l.initial.self-inside.vars;
      room : t.vars < vec_capacity t.entries;
      lists : AreKept t.vars t.entries.items t.signs.items;
      above : l.level ≤ level_of t.entries.items;
      kept : filter (λ e. nat_le e.level l.level) t.entries.items ≡ filter (λ e. nat_le e.level l.level) first;
      front : t.entries.items ≡ take (length t.entries.items) first;
    }

abbrev pub decreases-undo : goal.decreases-undo
decreases-undo l = vec_len l.self-inside.entries
