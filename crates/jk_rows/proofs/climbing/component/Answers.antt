use Rattle.std.proofs.Common.{rules, ◌≡◌, ◌<◌, ◌^◌, length, ◌∙◌, ap, sym, subst, arith}
use Rattle.jk_math.specs.declared.rect.Rect.{Rect}
use Rattle.jk_geom.specs.Rectangles.{tile_area, resolution_area}
use Rattle.jk_params.specs.Headers.{tile_in}
use Rattle.jk_tile.specs.Filling.{IsPartOf}
use Rattle.jk_geom.specs.TileShapes.{coding_of}
use Rattle.jk_tile.specs.TileMeaning.{shown_area}
use Rattle.jk_tile.specs.decoding.TileSources.{TileSource}
use Rattle.jk_tile.specs.decoding.Source.{Source}
use Rattle.jk_tile.proofs.Laws.{source_of, source_is, source_here, shown_is, coding_read, levels_read, whole_of}
use Rattle.jk_rows.specs.Components.{area_at}
use Rattle.jk_rows.specs.Tiles.{component_in}
use Rattle.jk_rows.proofs.climbing.component.Goals as goal

pub new-requires-clause-source : goal.new-requires-clause-source
new-requires-clause-source c =
    let i = c.coded.inside in
    let h = i.headers.now in
    let t = i.number in
    let codings = (tile_in h.tiles t).codings in
    let slice = c.as_slice.ensures ∙ c.codings.ensures in
    let few : c.args.c < h.siz.components = subst (λ (s : TileSource). c.args.c < s.headers.siz.components) (sym c.coded.view_is) c.requires.c in
    let lt : c.args.c < length codings = omega (arith, few, (c.coded.invariant.sound.each t c.coded.invariant.is_tile).all) in
    let rect = c.tile-rect.ensures.value ∙ ap (λ s. tile_area s t) c.siz.ensures in
    let area = c.resolution.ensures.value ∙ ap (λ (a : Rect). resolution_area a i.reduce 0) rect in
    let coding = coding_read codings c.as_slice.result.now c.args.c c.index-as_slice-c.result slice lt c.index-as_slice-c.is in
    let fits : length i.bytes.now < 2 ^ 64 = search rules in
    let inside = subst (IsPartOf c.resolution.result) area (whole_of c.resolution.result c.resolution.ensures.area) in
    let levels = levels_read codings c.args.c i.reduce c.index-as_slice-c.result c.coded.invariant.levels lt coding in
    source_is i.bytes.now h t c.args.c i.reduce c.tile-rect.result c.resolution.result c.index-as_slice-c.result i.packets.now c.coded.invariant.sound c.coded.invariant.is_tile lt c.tile-rect.ensures.area rect coding levels inside fits c.coded.invariant.ends

pub returns-clause-value : goal.returns-clause-value
returns-clause-value c =
    let i = c.coded.inside in
    let h = i.headers.now in
    let t = i.number in
    let codings = (tile_in h.tiles t).codings in
    let slice = c.as_slice.ensures ∙ c.codings.ensures in
    let few : c.args.c < h.siz.components = subst (λ (s : TileSource). c.args.c < s.headers.siz.components) (sym c.coded.view_is) c.requires.c in
    let lt : c.args.c < length codings = omega (arith, few, (c.coded.invariant.sound.each t c.coded.invariant.is_tile).all) in
    let rect = c.tile-rect.ensures.value ∙ ap (λ s. tile_area s t) c.siz.ensures in
    let area = c.resolution.ensures.value ∙ ap (λ (a : Rect). resolution_area a i.reduce 0) rect in
    let coding = coding_read codings c.as_slice.result.now c.args.c c.index-as_slice-c.result slice lt c.index-as_slice-c.is in
    subst (λ (s : TileSource). c.new.result ≡ component_in s c.args.c) c.coded.view_is
    (c.new.ensures ∙ source_here i.bytes.now h t i.reduce c.args.c c.tile-rect.result c.resolution.result c.index-as_slice-c.result i.packets.now rect coding
    ∙ ap (λ (u : Rect). source_of i.bytes.now (tile_area h.siz t) (coding_of codings c.args.c) i.reduce u i.packets.now c.args.c) area)

pub returns-clause-top : goal.returns-clause-top
returns-clause-top c =
    let i = c.coded.inside in
    let h = i.headers.now in
    let t = i.number in
    let codings = (tile_in h.tiles t).codings in
    let slice = c.as_slice.ensures ∙ c.codings.ensures in
    let few : c.args.c < h.siz.components = subst (λ (s : TileSource). c.args.c < s.headers.siz.components) (sym c.coded.view_is) c.requires.c in
    let lt : c.args.c < length codings = omega (arith, few, (c.coded.invariant.sound.each t c.coded.invariant.is_tile).all) in
    let rect = c.tile-rect.ensures.value ∙ ap (λ s. tile_area s t) c.siz.ensures in
    let coding = coding_read codings c.as_slice.result.now c.args.c c.index-as_slice-c.result slice lt c.index-as_slice-c.is in
    let levels = levels_read codings c.args.c i.reduce c.index-as_slice-c.result c.coded.invariant.levels lt coding in
    let k = c.index-as_slice-c.result in
    subst (λ (s : TileSource). area_at c.new.result c.new.result.region.top ≡ shown_area s.headers.siz s.number s.reduce) c.coded.view_is
    (ap (λ (s : Source). area_at s s.region.top) c.new.ensures ∙ shown_is c.tile-rect.result k.levels i.reduce levels ∙ ap (λ (a : Rect). resolution_area a i.reduce 0) rect)
