use Rattle.std.proofs.Common.{rules, ◌≡◌, ◌<◌, ◌^◌, List, ℤ, length, map, All, Ok, Err, ◌∙◌, ap, sym, subst, arith}
use Rattle.std.specs.List.{range_with_len}
use Rattle.std.proofs.lemmas.List.Elements.{All-nil}
use Rattle.std.proofs.lemmas.Result.{err_from_is_err_and}
use Rattle.std.specs.Global.{Vec}
use Rattle.jk_math.specs.Lists.{lists_of, list_at}
use Rattle.jk_math.specs.Raster.{raster}
use Rattle.jk_math.specs.Signed.{IsBelow}
use Rattle.jk_marks.specs.declared.coding.Coding.{Coding}
use Rattle.jk_geom.specs.Rectangles.{tile_area}
use Rattle.jk_geom.specs.TileShapes.{coding_of}
use Rattle.jk_params.specs.Headers.{tile_in}
use Rattle.jk_tile.specs.Filling.{IsPartOf}
use Rattle.jk_tile.specs.TileMeaning.{shown_area}
use Rattle.jk_tile.specs.decoding.TileReading.{each, component_part_tested, bodies_of, component_values, part_values_at}
use Rattle.jk_tile.specs.decoding.TileSources.{TileSource}
use Rattle.jk_tile.specs.decoding.Source.{source_values}
use Rattle.jk_tile.proofs.Steps.{each_none, each_more, each_fails, refuses_on}
use Rattle.jk_tile.proofs.Components.{source_is, component_then, component_not, lists_push, small_push, values_fine, values_err, coding_read, levels_read}
use Rattle.jk_tile.proofs.decoding.tile.read_components.Goals as goal

pub loop-c-init : goal.loop-c-init
loop-c-init c = record {
  tested = each_none _;
  lists = ap lists_of c.new-values.ensures.items;
  small = λ i. subst (λ (vs : List (Vec ℤ)). All (IsBelow (2 ^ 29)) (list_at vs i)) (sym c.new-values.ensures.items) (All-nil (IsBelow (2 ^ 29)));
}

pub new-source-requires-clause-source : goal.new-source-requires-clause-source
new-source-requires-clause-source c =
    let h = c.coded.inside.headers.now in
    let slice = c.as_slice-codings.ensures ∙ c.codings.ensures in
    let lt : c.loop-c.c < length (tile_in h.tiles c.coded.inside.number).codings = omega (arith, c.loop-c-test.true, ap (λ (ks : List Coding). length ks) slice) in
    let rect = c.tile-rect.ensures.value ∙ ap (λ s. tile_area s c.coded.inside.number) c.siz.ensures in
    let coding = coding_read (tile_in h.tiles c.coded.inside.number).codings c.as_slice-codings.result.now c.loop-c.c c.index-codings-c.result slice lt c.index-codings-c.is in
    let fits : length c.coded.inside.bytes.now < 2 ^ 64 = search rules in
    let inside = subst (λ (s : TileSource). IsPartOf c.args.area.now (shown_area s.headers.siz s.number s.reduce)) (sym c.coded.view_is) c.requires.inside in
    let levels = levels_read (tile_in h.tiles c.coded.inside.number).codings c.loop-c.c c.coded.inside.reduce c.index-codings-c.result c.coded.invariant.levels lt coding in
    source_is c.coded.inside.bytes.now h c.coded.inside.number c.loop-c.c c.coded.inside.reduce c.tile-rect.result c.args.area.now c.index-codings-c.result c.coded.inside.packets.now c.coded.invariant.sound c.coded.invariant.is_tile lt c.tile-rect.ensures.area rect coding levels inside fits c.coded.invariant.ends

pub returns-in_err-read_component-clause-exact : goal.returns-in_err-read_component-clause-exact
returns-in_err-read_component-clause-exact c =
    let h = c.coded.inside.headers.now in
    let t = c.coded.inside.number in
    let slice = c.as_slice-codings.ensures ∙ c.codings.ensures in
    let few : c.loop-c.c < length (tile_in h.tiles t).codings = omega (arith, c.loop-c-test.true, ap (λ (ks : List Coding). length ks) slice) in
    let rect = c.tile-rect.ensures.value ∙ ap (λ s. tile_area s t) c.siz.ensures in
    let coding = coding_read (tile_in h.tiles t).codings c.as_slice-codings.result.now c.loop-c.c c.index-codings-c.result slice few c.index-codings-c.is in
    let e = c.in_err-read_component.field-0.0 in
    let s = c.new-source.result in
    let q = err_from_is_err_and c.from_residual.result c.from_residual.ensures.1 in
    let lt : c.loop-c.c < h.siz.components = omega (arith, few, (c.coded.invariant.sound.each t c.coded.invariant.is_tile).all) in
    rw (q.1, q.2) (refuses_on e (source_values s) _ c.in_err-read_component.ensures.exact
    (λ is. subst (λ (s : TileSource). part_values_at s.bytes s.headers s.number s.reduce c.args.area.now s.packets ≡ Err e) c.coded.view_is
    (values_err c.coded.inside.bytes.now h t c.coded.inside.reduce c.args.area.now c.coded.inside.packets.now e
    (each_fails h.siz.components c.loop-c.c (λ i. component_part_tested (tile_area h.siz t) (coding_of (tile_in h.tiles t).codings i) c.coded.inside.reduce c.args.area.now (bodies_of c.coded.inside.bytes.now c.coded.inside.packets.now i)) e lt c.loop-c.invariant.tested
    (component_not c.coded.inside.bytes.now h t c.coded.inside.reduce c.loop-c.c c.tile-rect.result c.args.area.now c.index-codings-c.result c.coded.inside.packets.now s e c.new-source.ensures rect coding is)))))

pub loop-c-preserved : goal.loop-c-preserved
loop-c-preserved c =
    let h = c.coded.inside.headers.now in
    let t = c.coded.inside.number in
    let slice = c.as_slice-codings.ensures ∙ c.codings.ensures in
    let few : c.loop-c.c < length (tile_in h.tiles t).codings = omega (arith, c.loop-c-test.true, ap (λ (ks : List Coding). length ks) slice) in
    let rect = c.tile-rect.ensures.value ∙ ap (λ s. tile_area s t) c.siz.ensures in
    let coding = coding_read (tile_in h.tiles t).codings c.as_slice-codings.result.now c.loop-c.c c.index-codings-c.result slice few c.index-codings-c.is in
    let v = c.in_ok-read_component.field-0 in
    let is = component_then c.coded.inside.bytes.now h t c.coded.inside.reduce c.loop-c.c c.tile-rect.result c.args.area.now c.index-codings-c.result c.coded.inside.packets.now c.new-source.result v.items c.new-source.ensures rect coding c.in_ok-read_component.ensures.exact in
    record {
      tested = each_more c.loop-c.c (λ i. component_part_tested (tile_area h.siz t) (coding_of (tile_in h.tiles t).codings i) c.coded.inside.reduce c.args.area.now (bodies_of c.coded.inside.bytes.now c.coded.inside.packets.now i)) c.loop-c.invariant.tested is.0;
      lists = lists_push (λ i. raster c.args.area.now (component_values c.coded.inside.bytes.now h t c.coded.inside.reduce c.coded.inside.packets.now i)) c.loop-c.c c.loop-c.values.items c.push.new.self.items v c.loop-c.invariant.lists c.in_ok-push.ensures.items is.1;
      small = λ i. subst (λ (vs : List (Vec ℤ)). All (IsBelow (2 ^ 29)) (list_at vs i)) (sym c.in_ok-push.ensures.items) (small_push (2 ^ 29) c.loop-c.values.items v c.loop-c.invariant.small c.in_ok-read_component.ensures.small i);
    }

pub returns-clause-exact : goal.returns-clause-exact
returns-clause-exact c =
    let h = c.coded.inside.headers.now in
    let t = c.coded.inside.number in
    let slice = c.as_slice-codings.ensures ∙ c.codings.ensures in
    let all : c.loop-c.c ≡ h.siz.components = omega (arith, c.loop-c-test.false, c.loop-c.auto.c-end, ap (λ (ks : List Coding). length ks) slice, (c.coded.invariant.sound.each t c.coded.invariant.is_tile).all) in
    subst (λ (s : TileSource). part_values_at s.bytes s.headers s.number s.reduce c.args.area.now s.packets ≡ Ok (lists_of c.loop-c.values.items)) c.coded.view_is
    (values_fine c.coded.inside.bytes.now h t c.coded.inside.reduce c.args.area.now c.coded.inside.packets.now
    (ap (λ n. each n (λ i. component_part_tested (tile_area h.siz t) (coding_of (tile_in h.tiles t).codings i) c.coded.inside.reduce c.args.area.now (bodies_of c.coded.inside.bytes.now c.coded.inside.packets.now i))) (sym all) ∙ c.loop-c.invariant.tested)
    ∙ ap Ok (ap (λ n. map (λ i. raster c.args.area.now (component_values c.coded.inside.bytes.now h t c.coded.inside.reduce c.coded.inside.packets.now i)) (range_with_len 0 n)) (sym all) ∙ sym c.loop-c.invariant.lists))
