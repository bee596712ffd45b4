use Rattle.std.proofs.Common.{◌≡◌, ◌++◌, List, ℕ, sym, ap, ◌∙◌, append_assoc}
use Rattle.std.specs.List.{flat_map, zip}
use Rattle.jk_marks.specs.PartHeads.{part_head}
use Rattle.jk_geom.specs.declared.shape.TileShape.{TileShape}
use Rattle.jk_geom.specs.Rectangles.{meet}
use Rattle.jk_geom.specs.Partitions.{reduced_area}
use Rattle.jk_order.specs.PacketOrder.{order}
use Rattle.jk_params.specs.Headers.{tile_in}
use Rattle.jk_walk.specs.TilePackets.{shape_in}
use Rattle.jk_window.specs.Cutting.{wanted}
use Rattle.jk_stored.specs.Contents.{packet_of}
use Rattle.jk_stored.specs.Walks.{entries_in}
use Rattle.jk_stored.proofs.making.put_tile.Goals as goal

pub returns-clause-put : goal.returns-clause-put
returns-clause-put g c =
    let old = c.args.out.now.items in
    let head = c.args.head.now.head in
    let segments = c.args.head.now.segments.items in
    let h = c.args.sources.now.headers.now in
    let w = c.args.sources.now.sight.window in
    let d = c.args.sources.now.sight.reduce in
    let shape : c.shape_of-shape.result ≡ shape_in h.siz (tile_in h.tiles c.args.tile) c.args.tile = c.shape_of-shape.ensures.value in
    let cod : c.cod-cod.result.now ≡ (tile_in h.tiles c.args.tile).cod = c.cod-cod.ensures in
    let put = c.in_ok-put_due.ensures.put in (
      put.0,
      put.1 ∙ ap (λ (xs : List ℕ). xs ++ put.0) c.in_ok-put_head.ensures
          ∙ append_assoc old (part_head head segments c.content_size-due.result) put.0
          ∙ ap (λ k. old ++ (part_head head segments k ++ put.0)) (sym put.2),
      λ code keeping long held. (
        c.in_ok-packets.packets.entries.items,
        (λ i. entries_in code (sym shape i) (sym cod i).sop (sym cod i).eph c.args.part) ∙ c.in_ok-packets.ensures.read code keeping long held,
        (let top : c.meet-top.result ≡ meet w (reduced_area (shape_in h.siz (tile_in h.tiles c.args.tile) c.args.tile).rect d) =
            c.meet-top.ensures ∙ ap (meet w) (c.reduced.ensures.value ∙ ap (λ (s : TileShape). reduced_area s.rect d) shape) in
            let names : c.as_slice-names.result.now ≡ order (shape_in h.siz (tile_in h.tiles c.args.tile) c.args.tile) = c.as_slice-names.ensures.value ∙ c.in_ok-packets.ensures.order ∙ ap order shape in
            let entries : c.as_slice-entries.result.now ≡ c.in_ok-packets.packets.entries.items = c.as_slice-entries.ensures.value in
            put.3 code keeping (c.in_ok-packets.ensures.held code keeping held)
            ∙ (λ i. flat_map (packet_of code (wanted (shape i) (top i) d (shape i).layers) (cod i).eph) (zip (names i) (entries i)))),
      ),
    )
