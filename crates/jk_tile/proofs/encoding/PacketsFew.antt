-- A tile of few packets has few precincts.
use Rattle.std.proofs.Common.{◌≡◌, ◌+◌, ◌*◌, ◌^◌, ◌<◌, ◌≤◌, length, replicate, sum_by, refl, ap, arith}
use Rattle.std.proofs.Math.Nat.{mul-le-mul_right}
use Rattle.jk_marks.specs.declared.coding.Coding.{Coding}
use Rattle.jk_geom.specs.declared.shape.TileShape.{TileShape}
use Rattle.jk_geom.specs.Counts.{precincts_below, packet_number}
use Rattle.jk_geom.specs.TileShapes.{IsTileShape}
use Rattle.jk_geom.proofs.Laws.{precincts_of, number_is}
use Rattle.jk_order.specs.PacketOrder.{packet_count}
use Rattle.jk_tile.proofs.Components.{sum_each}
use Rattle.jk_tile.proofs.encoding.WritingTile.{own_coding}

pub count_is : (s : TileShape) → packet_count s ≡ packet_number s.rect s.layers s.codings
unfolding packet_count
count_is s = refl

pub few_below : (s : TileShape) (k : Coding) → IsTileShape s → s.codings ≡ replicate (length s.codings) k → packet_count s ≤ 2 ^ 24 → precincts_below s.rect k (k.levels + 1) ≤ 2 ^ 24
few_below s k is alike few =
    let some = is.codings.some in
    let lt : 0 < length s.codings = omega (arith, some) in
    let own = ap (λ (j : Coding). precincts_of s.rect j) (own_coding s k 0 alike lt) in
    let one = sum_each s.rect s.codings 0 lt in
    let layered : 1 * sum_by (λ (j : Coding). precincts_of s.rect j) s.codings ≤ s.layers * sum_by (λ (j : Coding). precincts_of s.rect j) s.codings = mul-le-mul_right _ is.some_layers in
    omega (arith, own, one, layered, number_is s.rect s.layers s.codings, count_is s, few)
