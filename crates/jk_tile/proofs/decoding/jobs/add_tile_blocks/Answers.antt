use Rattle.std.proofs.Common.{rules, ◌<◌, ◌^◌, List, length, ◌∙◌, ap, sym, subst, arith}
use Rattle.jk_math.specs.declared.rect.Rect.{Rect}
use Rattle.jk_marks.specs.declared.coding.Coding.{Coding}
use Rattle.jk_geom.specs.Rectangles.{tile_area, resolution_area}
use Rattle.jk_params.specs.Headers.{tile_in}
use Rattle.jk_tile.specs.Filling.{IsPartOf}
use Rattle.jk_tile.specs.decoding.Decoded.{AreSegments}
use Rattle.jk_tile.specs.decoding.Source.{Source}
use Rattle.jk_tile.specs.decoding.TileSources.{TileSource}
use Rattle.jk_tile.proofs.Components.{source_is, coding_read, levels_read}
use Rattle.jk_tile.proofs.decoding.Judged.{whole_of}
use Rattle.jk_tile.proofs.decoding.jobs.add_tile_blocks.Goals as goal

pub new-source-requires-clause-source : goal.new-source-requires-clause-source
new-source-requires-clause-source c =
    let i = c.coded.inside in
    let h = i.headers.now in
    let t = i.number in
    let codings = (tile_in h.tiles t).codings in
    let slice = c.as_slice-codings.ensures ∙ c.codings.ensures in
    let lt : c.loop-c.c < length codings = omega (arith, c.loop-c-test.true, ap (λ (ks : List Coding). length ks) slice) in
    let rect = c.tile-rect.ensures.value ∙ ap (λ s. tile_area s t) c.siz.ensures in
    let area = c.resolution-area.ensures.value ∙ ap (λ (a : Rect). resolution_area a i.reduce 0) rect in
    let coding = coding_read codings c.as_slice-codings.result.now c.loop-c.c c.index-codings-c.result slice lt c.index-codings-c.is in
    let fits : length i.bytes.now < 2 ^ 64 = search rules in
    let inside = subst (IsPartOf c.resolution-area.result) area (whole_of c.resolution-area.result c.resolution-area.ensures.area) in
    let levels = levels_read codings c.loop-c.c i.reduce c.index-codings-c.result c.coded.invariant.levels lt coding in
    source_is i.bytes.now h t c.loop-c.c i.reduce c.tile-rect.result c.resolution-area.result c.index-codings-c.result i.packets.now c.coded.invariant.sound c.coded.invariant.is_tile lt c.tile-rect.ensures.area rect coding levels inside fits c.coded.invariant.ends

pub loop-c-preserved : goal.loop-c-preserved
loop-c-preserved c = λ all.
    let here = c.new-source.ensures in
    let bytes = c.coded.view_is in
    let old = c.loop-c.segments.items in
    let new = c.add_component_blocks.new.segments.items in
    let in_of = subst (λ (s : TileSource). AreSegments (length s.bytes) old) (sym bytes) (c.loop-c.invariant all) in
    let done = c.in_ok-add_component_blocks.ensures.segments (subst (λ (s : Source). AreSegments (length s.bytes) old) (sym here) in_of) in
    subst (λ (s : TileSource). AreSegments (length s.bytes) new) bytes (subst (λ (s : Source). AreSegments (length s.bytes) new) here done)
