use Rattle.std.proofs.Common.{◌≡◌, ◌<◌, sym, ap, subst, ◌∙◌}
use Rattle.std.specs.List.{flat_map, range_with_len}
use Rattle.jk_math.specs.Steps.{if_ok}
use Rattle.jk_math.specs.Lists.{lists_of}
use Rattle.jk_marks.specs.declared.coding.Coding.{Coding}
use Rattle.jk_marks.specs.declared.siz.Siz.{Siz}
use Rattle.jk_marks.specs.Siz.{tile_count}
use Rattle.jk_geom.specs.Rectangles.{tile_area}
use Rattle.jk_params.specs.declared.picture_frame.PictureFrame.{PictureFrame}
use Rattle.jk_params.specs.Coding.{HasPlanes}
use Rattle.jk_params.specs.Profile.{siz_of, siz_for}
use Rattle.jk_walk.specs.TilePackets.{planes_of}
use Rattle.jk_tile.specs.encoding.Forward.{tile_value}
use Rattle.jk_tile.specs.encoding.LateTables.{bands_from}
use Rattle.jk_tile.specs.encoding.PacketsWritten.{tile_text}
use Rattle.jk_tile.specs.encoding.TileWriters.{component_lists}
use Rattle.jk_tile.specs.encoding.Strips.{ComponentFrame}
use Rattle.jk_tile.specs.encoding.FallenTiles.{fallen_in, IsCodedTile, IsFallenTile, HasTileRoom}
use Rattle.jk_tile.specs.encoding.TilesFrom.{tile_lists}
use Rattle.jk_tile.proofs.Laws.{planes_have}
use Rattle.jk_code.specs.ComingRows.{component_of}
use Rattle.jk_code.proofs.ComingLaws.{coming_written, coming_levels, lists_same}
use Rattle.jk_code.proofs.ImageTileLaws.{image_room}
use Rattle.jk_code.proofs.image_tiles.ImageTiles.packets.Goals as goal

pub tables-requires-clause-fallen : goal.tables-requires-clause-fallen
tables-requires-clause-fallen c =
    subst (λ (g : ComponentFrame). IsFallenTile g c.args.tile) (sym c.component_at-source.ensures) c.requires.fallen.fallen

pub tables-requires-clause-planes : goal.tables-requires-clause-planes
tables-requires-clause-planes c =
    let s = c.args.self.now.coming in
    let p = c.args.self.now.image.now in
    let told = c.requires.told in
    subst HasPlanes (sym told.coding) (planes_have p s.parameters.now told.picture (coming_written s p told.coming told.frame))

pub tables-requires-clause-room : goal.tables-requires-clause-room
tables-requires-clause-room c =
    let s = c.args.self.now.coming in
    let q = s.parameters.now in
    let p = c.args.self.now.image.now in
    let t = c.args.number in
    let told = c.requires.told in
    let siz : siz_of p q ≡ siz_for s.frame q = ap (λ (f : PictureFrame). siz_for f q) told.frame in
    subst (λ (g : ComponentFrame). HasTileRoom g (planes_of c.args.self.now.coding.now) c.args.tile) (sym c.component_at-source.ensures)
    (subst (λ (k : Coding). HasTileRoom (component_of s t) (planes_of k) c.args.tile) (sym told.coding)
    (image_room p q t (component_of s t) c.args.tile (ap (λ (z : Siz). tile_area z t) (sym siz)) (coming_levels s told.coming) (c.requires.fallen.components ∙ sym (ap (λ (f : PictureFrame). f.components) told.frame))
    (subst (λ (z : Siz). t < tile_count z) (sym siz) c.requires.number) c.requires.coded))

pub packets_of-requires : goal.packets_of-requires
packets_of-requires c =
    let s = c.args.self.now.coming in
    let q = s.parameters.now in
    let p = c.args.self.now.image.now in
    let t = c.args.number in
    let told = c.requires.told in
    let f = tile_value p q.colour in
    let source = c.component_at-source.ensures in
    let parameters = c.outline_at-outline.ensures.parameters in
    let here : IsCodedTile c.component_at-source.result f c.args.tile = subst (λ (g : ComponentFrame). IsCodedTile g f c.args.tile) (sym source) c.requires.coded in
    let lists : lists_of c.deref.result.now ≡ tile_lists p c.outline_at-outline.result.parameters.now t =
    ap (λ xs. lists_of xs) c.deref.ensures.value ∙ c.in_ok-tables.ensures.tables f here
    ∙ ap (λ (g : ComponentFrame). flat_map (λ k. component_lists (bands_from g c.args.self.now.coding.now (f k))) (range_with_len 0 (fallen_in c.args.tile))) source
    ∙ ap (λ n. flat_map (λ k. component_lists (bands_from (component_of s t) c.args.self.now.coding.now (f k))) (range_with_len 0 n)) c.requires.fallen.components
    ∙ lists_same s c.args.self.now.coding.now p t told.frame told.coding ∙ ap (λ j. tile_lists p j t) (sym parameters) in
    let outline = c.outline_at-outline.ensures.outline p told.picture told.frame told.coding in
    record { tile = (p, t, outline, lists) }

pub returns-clause-value : goal.returns-clause-value
returns-clause-value c =
    let s = c.args.self.now.coming in
    let q = s.parameters.now in
    let p = c.args.self.now.image.now in
    let t = c.args.number in
    let told = c.requires.told in
    let f = tile_value p q.colour in
    let source = c.component_at-source.ensures in
    let parameters = c.outline_at-outline.ensures.parameters in
    let here : IsCodedTile c.component_at-source.result f c.args.tile = subst (λ (g : ComponentFrame). IsCodedTile g f c.args.tile) (sym source) c.requires.coded in
    let lists : lists_of c.deref.result.now ≡ tile_lists p c.outline_at-outline.result.parameters.now t =
    ap (λ xs. lists_of xs) c.deref.ensures.value ∙ c.in_ok-tables.ensures.tables f here
    ∙ ap (λ (g : ComponentFrame). flat_map (λ k. component_lists (bands_from g c.args.self.now.coding.now (f k))) (range_with_len 0 (fallen_in c.args.tile))) source
    ∙ ap (λ n. flat_map (λ k. component_lists (bands_from (component_of s t) c.args.self.now.coding.now (f k))) (range_with_len 0 n)) c.requires.fallen.components
    ∙ lists_same s c.args.self.now.coding.now p t told.frame told.coding ∙ ap (λ j. tile_lists p j t) (sym parameters) in
    let outline = c.outline_at-outline.ensures.outline p told.picture told.frame told.coding in
    if_ok c.packets_of.result (λ v is. is p t outline lists ∙ ap (λ j. tile_text p j t) parameters) c.packets_of.ensures.exact
