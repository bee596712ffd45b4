use Rattle.std.proofs.Common.{◌≡◌, ◌-◌, ◌≤◌}
use Rattle.jk_packet.specs.Reading.{growth_at}
use Rattle.jk_packet.proofs.words.read_growth.Given as goal

abbrev pub invariant-loop-growth : goal.invariant-loop-growth
invariant-loop-growth l = record {
  within : l.growth ≤ l.room;
  room_fits : l.room ≤ 33;
  told : growth_at (l.room - l.growth) l.growth l.reader ≡ growth_at l.room 0 l.fn.reader;
}

abbrev pub decreases-loop-growth : goal.decreases-loop-growth
decreases-loop-growth l = l.room - l.growth
