use Rattle.std.proofs.Common.{◌≡◌, ◌≤◌, ◌++◌}
use Rattle.jk_bits.specs.Stuffing.{binary}
use Rattle.jk_packet.proofs.wording.push_number.Given as goal

abbrev pub invariant-loop-left : goal.invariant-loop-left
invariant-loop-left l = record {
  within : l.left ≤ 32;
  sound : l.writer.failed ≡ l.fn.writer.failed;
  told : l.writer.bits ++ binary l.left l.value ≡ l.fn.writer.bits ++ binary l.count l.value;
}

abbrev pub decreases-loop-left : goal.decreases-loop-left
decreases-loop-left l = l.left
