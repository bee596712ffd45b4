use Rattle.std.proofs.Common.{◌≡◌, ◌∙◌, ap, subst, arith}
use Rattle.jk_math.specs.Lists.{lists_of}
use Rattle.jk_math.specs.Steps.{answers_same}
use Rattle.jk_math.specs.declared.rect.Rect.{Rect}
use Rattle.jk_geom.specs.Rectangles.{tile_area, resolution_area}
use Rattle.jk_tile.specs.TileMeaning.{shown_area}
use Rattle.jk_tile.specs.decoding.TileReading.{part_planes_at, tile_planes_at}
use Rattle.jk_tile.specs.decoding.TileSources.{TileSource}
use Rattle.jk_tile.proofs.decoding.WholeTile.{whole_planes}
use Rattle.jk_tile.proofs.decoding.tile.decode_tile_of.Goals as goal

pub returns : goal.returns
returns c =
    let i = c.coded.inside in
    let h = i.headers.now in
    let t = i.number in
    let rect = c.tile-rect.ensures.value ∙ ap (λ s. tile_area s t) c.siz.ensures in
    let area : c.resolution-area.result ≡ shown_area h.siz t i.reduce = c.resolution-area.ensures.value ∙ ap (λ (a : Rect). resolution_area a i.reduce 0) rect in
    let all = (c.coded.invariant.sound.each t c.coded.invariant.is_tile).all in
    record {
      exact = answers_same (λ v. lists_of v.items) c.decode_part_of.result _ _ c.decode_part_of.ensures.exact
          (subst (λ (s : TileSource). part_planes_at s.bytes s.headers s.number s.reduce c.resolution-area.result s.packets ≡ tile_planes_at s.bytes s.headers s.number s.reduce s.packets) c.coded.view_is
          (ap (λ (u : Rect). part_planes_at i.bytes.now h t i.reduce u i.packets.now) area ∙ whole_planes i.bytes.now h t i.reduce i.packets.now (omega (arith, all)) c.coded.invariant.levels));
    }
