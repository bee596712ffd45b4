use Rattle.std.proofs.Common.{◌≡◌, ◌*◌, map, pos}
use Rattle.std.specs.List.{range_with_len}
use Rattle.jk_math.specs.Lists.{lists_of}
use Rattle.jk_pnm.specs.Pnm.{components_of, plane_from}
use Rattle.jk_pnm.proofs.reading.planes.Given as goal

abbrev pub invariant-loop-component : goal.invariant-loop-component
invariant-loop-component l = lists_of l.planes.items ≡ map (λ component. map pos (plane_from l.header.maxval (components_of l.header.colour) (l.header.width * l.header.height) l.raster component)) (range_with_len 0 l.component)
