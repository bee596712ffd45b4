use Rattle.std.proofs.Common.{◌≡◌, ◌+◌, ◌-◌, ◌≤◌}
use Rattle.jk_math.specs.Picture.{Picture}
use Rattle.jk_code.specs.RowsWritten.{WereGiven}
use Rattle.jk_code.proofs.encoding_rows.drop_rows.Given as goal

-- the rows above the next are given
abbrev pub invariant-loop-y : goal.invariant-loop-y
invariant-loop-y g l = record {
  low : l.frame.y0 ≤ l.y;
  high : l.y ≤ l.frame.y0 + l.frame.height;
  framed : g.S.RowSupply.framed l.supply ≡ l.frame;
  next : g.S.RowSupply.next l.supply ≡ l.y;
  given : (p : Picture) × WereGiven g.S.RowSupply.gave l.frame l.frame.y0 l.y l.initial.supply l.supply p;
}

abbrev pub decreases-loop-y : goal.decreases-loop-y
decreases-loop-y g l = l.end - l.y
