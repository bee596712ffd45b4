use Rattle.std.proofs.Common.{◌∙◌, sym, ap, subst, refl}
use Rattle.jk_geom.specs.declared.shape.TileShape.{TileShape}
use Rattle.jk_geom.specs.Rectangles.{meet}
use Rattle.jk_geom.specs.Partitions.{reduced_area}
use Rattle.jk_order.specs.PacketOrder.{order, packet_count}
use Rattle.jk_params.specs.Headers.{Headers, tile_in}
use Rattle.jk_walk.specs.TilePackets.{shape_in}
use Rattle.jk_window.specs.Framing.{Frame}
use Rattle.jk_window.specs.PartEnds.{ArePartEnds}
use Rattle.jk_window.specs.Views.{layers_in}
use Rattle.jk_window.proofs.RunPlans.{tile_plans}
use Rattle.jk_window.proofs.tiles.plan_shown.Goals as goal

pub plan_packets-requires-clause-all : goal.plan_packets-requires-clause-all
plan_packets-requires-clause-all c =
    let t = c.args.tile in
    let shape = c.shape_of-shape.ensures.value ∙ ap (λ (x : Headers). shape_in x.siz (tile_in x.tiles t) t) c.headers-headers.ensures.value in
    c.tile_cut-cut.ensures.within.count ∙ ap packet_count (sym (c.tile_cut-cut.ensures.shape ∙ shape))

pub plan_packets-requires-clause-parts : goal.plan_packets-requires-clause-parts
plan_packets-requires-clause-parts c =
    let t = c.args.tile in
    let places = c.data_places.ensures ∙ ap (λ (x : Headers). (tile_in x.tiles t).data_places) c.headers-headers.ensures.value in
    subst (λ ps. ArePartEnds c.tile_cut-cut.result.entries.now ps c.tile_cut-cut.result.parts.now.ends.items) (sym places) c.tile_cut-cut.ensures.parts.ends

pub returns-clause-plans : goal.returns-clause-plans
returns-clause-plans c =
    let i = c.args.index.now in
    let t = c.args.tile in
    let w = c.args.window.now in
    let v = c.args.view in
    let cut = c.tile_cut-cut.result in
    let own = c.headers-headers.ensures.value in
    let shape = c.shape_of-shape.ensures.value ∙ ap (λ (x : Headers). shape_in x.siz (tile_in x.tiles t) t) own in
    let e = c.tile_cut-cut.ensures in
    let top = e.top ∙ ap (λ (x : TileShape). meet w (reduced_area x.rect v.reduce)) shape in
    let layers = e.layers ∙ ap (λ (x : TileShape). layers_in v.layers x.layers) shape in
    let size = ap (λ (x : Frame). x.size) (c.around.view_is ∙ c.around-around.ensures.value) in
    let places = c.data_places.ensures ∙ ap (λ (x : Headers). (tile_in x.tiles t).data_places) own in
    record {
      emptied = λ never. absurd cc;
      planned = λ _.
          tile_plans i w v t c.around.inside.size cut (order cut.shape.now) c.data_places.result.now c.in_ok-parts.parts.items c.in_ok-parts.ensures.plans
          size (e.shape ∙ shape) refl e.entries e.eph e.start top e.reduce layers places;
    }
