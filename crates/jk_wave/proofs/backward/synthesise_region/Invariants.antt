use Rattle.std.proofs.Common.{◌-◌, ◌<◌}
use Rattle.jk_wave.specs.Regions.{IsHeld}
use Rattle.jk_wave.proofs.backward.synthesise_region.Given as goal

abbrev pub invariant-loop-r : goal.invariant-loop-r
invariant-loop-r l = 0 < l.r → IsHeld l.region l.bands (l.r - 1) l.samples.items
