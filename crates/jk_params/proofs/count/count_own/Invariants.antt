use Rattle.std.proofs.Common.{◌≡◌, ◌-◌, ◌^◌, min}
use Rattle.jk_geom.specs.Rectangles.{tile_area}
use Rattle.jk_geom.specs.Counts.{packet_number}
use Rattle.jk_params.specs.Headers.{tile_in, total}
use Rattle.jk_params.proofs.count.count_own.Given as goal

-- the packets of the tiles before
abbrev pub invariant-loop-t : goal.invariant-loop-t
invariant-loop-t l = l.count ≡ min (total (λ t. packet_number (tile_area l.siz t) (tile_in l.tiles t).cod.layers (tile_in l.tiles t).codings) l.t) (2 ^ 64 - 1)
