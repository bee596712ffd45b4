use Rattle.std.proofs.Common.{◌≡◌, ◌-◌, ◌*◌, ◌≤◌}
use Rattle.jk_packet.specs.Reading.{blocks_at}
use Rattle.jk_packet.proofs.band.Band.read.Given as goal

abbrev pub invariant-loop-index : goal.invariant-loop-index
invariant-loop-index l = record {
  end_is : l.count ≡ l.fn.self.shape.width * l.fn.self.shape.height;
  within : l.index ≤ l.count;
  kept : l.self.shape ≡ l.fn.self.shape;
  told : blocks_at l.number l.layer (l.count - l.index) l.index record { band = l.self; bits = l.reader; parts = l.parts.items }
      ≡ blocks_at l.number l.layer l.count 0 record { band = l.fn.self; bits = l.fn.reader; parts = l.fn.parts.items };
}

abbrev pub decreases-loop-index : goal.decreases-loop-index
decreases-loop-index l = l.count - l.index
