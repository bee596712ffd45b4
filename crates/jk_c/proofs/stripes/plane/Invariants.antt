use Rattle.std.proofs.Common.{◌≡◌, map}
use Rattle.jk_c.specs.Signed.{signed_plane_in}
use Rattle.jk_c.proofs.stripes.plane.Given as goal

abbrev pub invariant-loop-i : goal.invariant-loop-i
invariant-loop-i g l = l.samples.items ≡ signed_plane_in (map g.T.Sample.value l.pixels) l.i l.components l.component
