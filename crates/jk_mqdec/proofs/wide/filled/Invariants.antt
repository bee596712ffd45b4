use Rattle.std.proofs.Common.{◌≡◌, ◌+◌, ◌-◌, ◌<◌, ◌≤◌, length}
use Rattle.jk_model.specs.Decisions.{State}
use Rattle.jk_mqdec.specs.Wide.{HoldsWide}
use Rattle.jk_mqdec.proofs.wide.filled.Given as goal

abbrev pub invariant-loop-now : goal.invariant-loop-now
invariant-loop-now l = record {
  code : l.now.code < l.now.width;
  width : l.now.width ≡ l.fn.old.width;
  count : l.now.count ≤ 48;
  place : l.now.place ≤ length l.bytes;
  holds : (s : State) → HoldsWide l.bytes l.fn.old s → HoldsWide l.bytes l.now s;
}

abbrev pub decreases-loop-now : goal.decreases-loop-now
decreases-loop-now l = 40 + 1 - l.now.count
