use Rattle.std.proofs.Common.{◌≡◌, ◌≤◌, ◌^◌, sym, ◌∙◌, subst}
use Rattle.jk_geom.specs.declared.shape.TileShape.{TileShape}
use Rattle.jk_geom.specs.Rectangles.{tile_area}
use Rattle.jk_order.specs.PacketOrder.{packet_count}
use Rattle.jk_params.specs.Headers.{tile_in}
use Rattle.jk_walk.specs.TilePackets.{shape_in}
use Rattle.jk_walk.proofs.TileFacts.{tile_few}
use Rattle.jk_walk.proofs.read.shape_of.Goals as goal

pub returns-clause-few : goal.returns-clause-few
returns-clause-few c =
    let h = c.args.headers.now in
    let t = c.args.tile in
    let same : record {
      rect = tile_area c.siz.result.now t;
      layers = c.cod-cod.result.now.layers;
      order = c.cod-cod.result.now.order;
      codings = c.copy.result;
    } ≡ shape_in h.siz (tile_in h.tiles t) t = λ i. record {
      rect = tile_area (c.siz.ensures i) t;
      layers = (c.cod-cod.ensures i).layers;
      order = (c.cod-cod.ensures i).order;
      codings = (c.copy.ensures ∙ c.codings.ensures) i;
    } in
    subst (λ (s : TileShape). packet_count s ≤ 2 ^ 24) (sym (c.tile_shape.ensures.value ∙ same)) (tile_few c.requires.sound.0 h t c.requires.sound.1 c.requires.tile)
