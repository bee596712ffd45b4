use Rattle.std.proofs.Common.{◌≡◌, ◌-◌, ◌^◌, min}
use Rattle.jk_geom.specs.Rectangles.{tile_area}
use Rattle.jk_geom.specs.Counts.{packet_number}
use Rattle.jk_params.specs.Headers.{total}
use Rattle.jk_params.proofs.count.count_alike.Given as goal

-- the packets of the tiles before
abbrev pub invariant-loop-t : goal.invariant-loop-t
invariant-loop-t l = l.count ≡ min (total (λ t. packet_number (tile_area l.siz t) l.layers l.codings) l.t) (2 ^ 64 - 1)
