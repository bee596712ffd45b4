-- The components of a tile, row by row.
use Rattle.std.proofs.Common.{◌≡◌, ℕ, ◌<◌, get_or, refl, sym, ◌∙◌, subst, arith}
use Rattle.jk_math.specs.declared.rect.Rect.{Rect}
use Rattle.jk_geom.specs.Rectangles.{tile_area}
use Rattle.jk_geom.specs.TileShapes.{coding_of}
use Rattle.jk_params.specs.Headers.{tile_in}
use Rattle.jk_tile.specs.TileMeaning.{shown_area}
use Rattle.jk_tile.specs.decoding.TileReading.{tested, component_tested, bodies_of, tile_planes_at}
use Rattle.jk_tile.specs.decoding.Source.{IsSource}
use Rattle.jk_tile.specs.decoding.TileSources.{TileSource}
use Rattle.jk_tile.proofs.Laws.{fine, each_only, component_is, tile_fine}
use Rattle.jk_rows.specs.declared.component.ComponentRows.{ComponentRows}
use Rattle.jk_rows.specs.declared.climbing.ClimbingTile.{ClimbingTile}
use Rattle.jk_rows.specs.Components.{area_at, IsComponentRows}
use Rattle.jk_rows.specs.Tiles.{component_in, IsClimbingTile}
use Rattle.jk_rows.proofs.Pushed.{some_element}
use Rattle.jk_rows.proofs.Whole.{component_fine}

-- component c of a tile is sound, and its highest resolution is what is shown of the tile
pub record IsSound (t : TileSource) (c : ℕ) : Type 0 where
  pub source : IsSource (component_in t c)
  pub top : area_at (component_in t c) (component_in t c).region.top ≡ shown_area t.headers.siz t.number t.reduce

-- a tile of which all rows were made
pub rows_fine : (t : TileSource) (r : ClimbingTile) → ((c : ℕ) → c < t.headers.siz.components → IsSound t c) → IsClimbingTile t (shown_area t.headers.siz t.number t.reduce).y1 r
    → tested (tile_planes_at t.bytes t.headers t.number t.reduce t.packets) ≡ fine
rows_fine t r sound at =
    let h = t.headers in
    let codings = (tile_in h.tiles t.number).codings in
    tile_fine t.bytes h t.number t.reduce t.packets
    (each_only h.siz.components (λ c. component_tested (tile_area h.siz t.number) (coding_of codings c) t.reduce (bodies_of t.bytes t.packets c)) (λ c lt.
    let s = component_in t c in
    let count = at.count in
    let other : ComponentRows = some_element r.components.items c (omega (arith, lt, count)) in
    let rows = subst (λ (a : Rect). IsComponentRows s a.y1 (get_or r.components.items c other)) (sym (sound c lt).top) (at.each c other lt) in
    sym (component_is t.bytes h t.number t.reduce c (tile_area h.siz t.number) (shown_area h.siz t.number t.reduce) (coding_of codings c) t.packets s refl refl refl)
    ∙ component_fine s (get_or r.components.items c other) (sound c lt).source rows))
