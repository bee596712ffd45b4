use Rattle.std.proofs.Common.{◌≡◌, ◌<◌, ◌^◌}
use Rattle.jk_window.specs.Needs.{stretch}
use Rattle.jk_window.proofs.need.stretch.Given as goal

abbrev pub invariant-loop : goal.invariant-loop
invariant-loop l = record {
  same : l.area ≡ stretch l.top l.counter;
  right : l.area.x1 < 2 ^ 31;
  lower : l.area.y1 < 2 ^ 31;
}
