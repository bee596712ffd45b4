use Rattle.std.proofs.Common.{◌≡◌, ◌∙◌, map, ap, sym, subst}
use Rattle.std.specs.List.{range_with_len}
use Rattle.jk_math.specs.Lists.{lists_of}
use Rattle.jk_math.specs.Raster.{raster}
use Rattle.jk_math.specs.declared.rect.Rect.{Rect}
use Rattle.jk_geom.specs.Rectangles.{tile_area, resolution_area}
use Rattle.jk_wave.specs.climbing.Held.{rows_between}
use Rattle.jk_tile.specs.TileMeaning.{shown_area}
use Rattle.jk_tile.specs.decoding.TileReading.{component_samples}
use Rattle.jk_tile.specs.decoding.TileSources.{TileSource}
use Rattle.jk_rows.proofs.at_once.WholeTile.step_of.Goals as goal

pub rows_of-requires-clause-planes : goal.rows_of-requires-clause-planes
rows_of-requires-clause-planes c =
    let i = c.coded.inside in
    let t = c.args.coded.now in
    let rect = c.tile-rect.ensures.value ∙ ap (λ s. tile_area s i.number) c.siz.ensures in
    let area : c.resolution-area.result ≡ shown_area i.headers.now.siz i.number i.reduce = c.resolution-area.ensures.value ∙ ap (λ (a : Rect). resolution_area a i.reduce 0) rect in
    let shown = subst (λ (s : TileSource). c.resolution-area.result ≡ shown_area s.headers.siz s.number s.reduce) c.coded.view_is area in
    let f = component_samples t.bytes t.headers t.number t.reduce t.packets in
    (t.headers.siz.components, f, ap lists_of c.deref.ensures.value ∙ c.in_ok-planes.ensures.planes.samples ∙ ap (λ (u : Rect). map (λ k. raster u (f k)) (range_with_len 0 t.headers.siz.components)) (sym shown))

pub returns-clause-rows : goal.returns-clause-rows
returns-clause-rows c =
    let i = c.coded.inside in
    let t = c.args.coded.now in
    let rect = c.tile-rect.ensures.value ∙ ap (λ s. tile_area s i.number) c.siz.ensures in
    let area : c.resolution-area.result ≡ shown_area i.headers.now.siz i.number i.reduce = c.resolution-area.ensures.value ∙ ap (λ (a : Rect). resolution_area a i.reduce 0) rect in
    let shown = subst (λ (s : TileSource). c.resolution-area.result ≡ shown_area s.headers.siz s.number s.reduce) c.coded.view_is area in
    let f = component_samples t.bytes t.headers t.number t.reduce t.packets in
    let given = ap lists_of c.deref.ensures.value ∙ c.in_ok-planes.ensures.planes.samples ∙ ap (λ (u : Rect). map (λ k. raster u (f k)) (range_with_len 0 t.headers.siz.components)) (sym shown) in
    c.in_ok-rows.ensures.rows t.headers.siz.components f given ∙ ap (λ (u : Rect). map (λ k. raster (rows_between u c.args.from c.args.to) (f k)) (range_with_len 0 t.headers.siz.components)) shown
