use Rattle.std.proofs.Common.{rules, ◌≡◌, ◌+◌, ◌<◌, ◌^◌, List, length, Err, ◌∙◌, ap, sym, subst, arith}
use Rattle.std.proofs.lemmas.Result.{err_from_is_err_and}
use Rattle.jk_math.specs.declared.rect.Rect.{Rect}
use Rattle.jk_marks.specs.declared.coding.Coding.{Coding}
use Rattle.jk_geom.specs.Rectangles.{tile_area, resolution_area}
use Rattle.jk_geom.specs.TileShapes.{coding_of}
use Rattle.jk_params.specs.Headers.{tile_in}
use Rattle.jk_tile.specs.Filling.{IsPartOf}
use Rattle.jk_tile.specs.decoding.TileReading.{each, tested, component_tested, resolution_tested, bodies_of, tile_planes_at}
use Rattle.jk_tile.specs.decoding.TileSources.{TileSource}
use Rattle.jk_tile.specs.decoding.Source.{source_bodies}
use Rattle.jk_tile.proofs.Steps.{fine, each_none, each_more, each_fails, refuses_on}
use Rattle.jk_tile.proofs.Components.{source_is, coding_read, levels_read}
use Rattle.jk_tile.proofs.decoding.Judged.{components_tested, whole_of, component_is, tile_fine, tile_err}
use Rattle.jk_tile.proofs.decoding.judging.judge_tile.Goals as goal

pub loop-c-init : goal.loop-c-init
loop-c-init c = each_none _

pub new-source-requires-clause-source : goal.new-source-requires-clause-source
new-source-requires-clause-source c =
    let i = c.coded.inside in
    let h = i.headers.now in
    let t = i.number in
    let codings = (tile_in h.tiles t).codings in
    let slice = c.as_slice-codings.ensures ∙ c.codings.ensures in
    let lt : c.loop-c.c < length codings = omega (arith, c.loop-c-test.true, ap (λ (ks : List Coding). length ks) slice) in
    let rect = c.tile-rect.ensures.value ∙ ap (λ s. tile_area s t) c.siz.ensures in
    let area = c.resolution-area.ensures.value ∙ ap (λ (a : Rect). resolution_area a i.reduce 0) rect in
    let coding = coding_read codings c.as_slice-codings.result.now c.loop-c.c c.index-codings-c.result slice lt c.index-codings-c.is in
    let fits : length i.bytes.now < 2 ^ 64 = search rules in
    let inside = subst (IsPartOf c.resolution-area.result) area (whole_of c.resolution-area.result c.resolution-area.ensures.area) in
    let levels = levels_read codings c.loop-c.c i.reduce c.index-codings-c.result c.coded.invariant.levels lt coding in
    source_is i.bytes.now h t c.loop-c.c i.reduce c.tile-rect.result c.resolution-area.result c.index-codings-c.result i.packets.now c.coded.invariant.sound c.coded.invariant.is_tile lt c.tile-rect.ensures.area rect coding levels inside fits c.coded.invariant.ends

pub returns-in_err-judge_component : goal.returns-in_err-judge_component
returns-in_err-judge_component c =
    let i = c.coded.inside in
    let h = i.headers.now in
    let t = i.number in
    let codings = (tile_in h.tiles t).codings in
    let slice = c.as_slice-codings.ensures ∙ c.codings.ensures in
    let few : c.loop-c.c < length codings = omega (arith, c.loop-c-test.true, ap (λ (ks : List Coding). length ks) slice) in
    let rect = c.tile-rect.ensures.value ∙ ap (λ s. tile_area s t) c.siz.ensures in
    let coding = coding_read codings c.as_slice-codings.result.now c.loop-c.c c.index-codings-c.result slice few c.index-codings-c.is in
    let e = c.in_err-judge_component.field-0.0 in
    let s = c.new-source.result in
    let q = err_from_is_err_and c.from_residual.result c.from_residual.ensures.1 in
    let lt : c.loop-c.c < h.siz.components = omega (arith, few, (c.coded.invariant.sound.each t c.coded.invariant.is_tile).all) in
    let before = subst (λ (s : TileSource). components_tested s.bytes s.headers s.number s.reduce s.packets c.loop-c.c ≡ fine) (sym c.coded.view_is) c.loop-c.invariant in
    record {
      exact = rw (q.1, q.2) (refuses_on e (each (s.region.top + 1) (λ r. resolution_tested s.region.rect s.coding r (source_bodies s r))) _ c.in_err-judge_component.ensures.exact
          (λ is. subst (λ (s : TileSource). tested (tile_planes_at s.bytes s.headers s.number s.reduce s.packets) ≡ Err e) c.coded.view_is
          (tile_err i.bytes.now h t i.reduce i.packets.now e
          (each_fails h.siz.components c.loop-c.c (λ k. component_tested (tile_area h.siz t) (coding_of codings k) i.reduce (bodies_of i.bytes.now i.packets.now k)) e lt before
          (sym (component_is i.bytes.now h t i.reduce c.loop-c.c c.tile-rect.result c.resolution-area.result c.index-codings-c.result i.packets.now s c.new-source.ensures rect coding) ∙ is)))));
    }

pub loop-c-preserved : goal.loop-c-preserved
loop-c-preserved c =
    let i = c.coded.inside in
    let h = i.headers.now in
    let t = i.number in
    let codings = (tile_in h.tiles t).codings in
    let slice = c.as_slice-codings.ensures ∙ c.codings.ensures in
    let few : c.loop-c.c < length codings = omega (arith, c.loop-c-test.true, ap (λ (ks : List Coding). length ks) slice) in
    let rect = c.tile-rect.ensures.value ∙ ap (λ s. tile_area s t) c.siz.ensures in
    let coding = coding_read codings c.as_slice-codings.result.now c.loop-c.c c.index-codings-c.result slice few c.index-codings-c.is in
    let before = subst (λ (s : TileSource). components_tested s.bytes s.headers s.number s.reduce s.packets c.loop-c.c ≡ fine) (sym c.coded.view_is) c.loop-c.invariant in
    subst (λ (s : TileSource). components_tested s.bytes s.headers s.number s.reduce s.packets (c.loop-c.c + 1) ≡ fine) c.coded.view_is
    (each_more c.loop-c.c (λ k. component_tested (tile_area h.siz t) (coding_of codings k) i.reduce (bodies_of i.bytes.now i.packets.now k)) before
    (sym (component_is i.bytes.now h t i.reduce c.loop-c.c c.tile-rect.result c.resolution-area.result c.index-codings-c.result i.packets.now c.new-source.result c.new-source.ensures rect coding) ∙ c.in_ok-judge_component.ensures.exact))

pub returns : goal.returns
returns c =
    let i = c.coded.inside in
    let h = i.headers.now in
    let t = i.number in
    let codings = (tile_in h.tiles t).codings in
    let slice = c.as_slice-codings.ensures ∙ c.codings.ensures in
    let all : c.loop-c.c ≡ h.siz.components = omega (arith, c.loop-c-test.false, c.loop-c.auto.c-end, ap (λ (ks : List Coding). length ks) slice, (c.coded.invariant.sound.each t c.coded.invariant.is_tile).all) in
    let before = subst (λ (s : TileSource). components_tested s.bytes s.headers s.number s.reduce s.packets c.loop-c.c ≡ fine) (sym c.coded.view_is) c.loop-c.invariant in
    record {
      exact = subst (λ (s : TileSource). tested (tile_planes_at s.bytes s.headers s.number s.reduce s.packets) ≡ fine) c.coded.view_is
          (tile_fine i.bytes.now h t i.reduce i.packets.now (ap (components_tested i.bytes.now h t i.reduce i.packets.now) (sym all) ∙ before));
    }
