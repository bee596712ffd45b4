use Rattle.std.proofs.Common.{◌≡◌, ◌≤◌, ◌-◌}
use Rattle.jk_commands.proofs.FileRowLaws.{AreBelow}
use Rattle.jk_commands.proofs.encoding_rows.judge.Given as goal

-- the samples above this row are in their range
abbrev pub invariant-loop-y : goal.invariant-loop-y
invariant-loop-y l = (l.y ≤ l.height) × (l.height ≡ l.raster.header.height) × AreBelow l.raster l.y

abbrev pub decreases-loop-y : goal.decreases-loop-y
decreases-loop-y l = l.height - l.y
