use Rattle.std.proofs.Common.{◌≡◌, ◌*◌, ◌^◌, ◌<◌, ◌≤◌, length}
use Rattle.jk_model.specs.Decisions.{State}
use Rattle.jk_mqdec.specs.Registers.{HoldsInterval}
use Rattle.jk_mqdec.proofs.Doubling.{Comes}
use Rattle.jk_mqdec.proofs.registers.fed_through.Given as goal

abbrev pub invariant-loop-left : goal.invariant-loop-left
invariant-loop-left l = record {
  code : l.now.code < l.now.width;
  width : l.now.width * 2 ^ l.left ≡ l.fn.old.width * 2 ^ l.fn.times;
  count : l.now.count < 8;
  empty : 0 < l.left → l.now.count ≡ 0;
  place : l.now.place ≤ length l.bytes;
  comes : (s : State) → HoldsInterval l.bytes l.fn.old s → Comes l.bytes l.now l.left l.fn.times s;
}

abbrev pub decreases-loop-left : goal.decreases-loop-left
decreases-loop-left l = l.left
