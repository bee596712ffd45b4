use Rattle.std.proofs.Common.{◌≡◌, map}
use Rattle.std.specs.List.{range_with_len}
use Rattle.jk_math.specs.Lists.{lists_of}
use Rattle.jk_c.specs.Signed.{signed_plane_in}
use Rattle.jk_c.proofs.stripes.planes.Given as goal

abbrev pub invariant-loop-component : goal.invariant-loop-component
invariant-loop-component g l = lists_of l.planes.items ≡ map (signed_plane_in (map g.T.Sample.value l.pixels) l.area l.components) (range_with_len 0 l.component)
