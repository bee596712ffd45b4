use Rattle.std.proofs.Common.{◌≡◌, ◌-◌, ◌^◌, min}
use Rattle.jk_geom.specs.Counts.{precincts_below}
use Rattle.jk_geom.proofs.count.precincts.Given as goal

-- the precincts of the resolutions before
abbrev pub invariant-loop-r : goal.invariant-loop-r
invariant-loop-r l = l.count ≡ min (precincts_below l.rect l.coding l.r) (2 ^ 64 - 1)
