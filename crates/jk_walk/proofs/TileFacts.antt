-- What the headers of a codestream say of a tile that its packets need.
use Rattle.std.proofs.Common.{ℕ, ◌<◌, ◌≤◌, ◌^◌, arith}
use Rattle.jk_marks.specs.Siz.{tile_count}
use Rattle.jk_order.specs.PacketOrder.{packet_count}
use Rattle.jk_params.specs.Headers.{Headers, tile_in, AreHeaders}
use Rattle.jk_params.proofs.Laws.{packets_in, part_of_total}
use Rattle.jk_walk.specs.TilePackets.{shape_in}

-- a tile has few packets
pub tile_few : (size : ℕ) (h : Headers) (t : ℕ) → AreHeaders size h → t < tile_count h.siz → packet_count (shape_in h.siz (tile_in h.tiles t) t) ≤ 2 ^ 24
unfolding packet_count
tile_few size h t are less =
    let all = part_of_total (packets_in h) (tile_count h.siz) t less in
    let few = are.few in
    omega (arith, all, few)
