use Rattle.std.proofs.Common.{◌≡◌, ◌<◌, List, ℤ, length, ◌∙◌, ap, sym, subst, arith}
use Rattle.std.specs.Vec.{with_items}
use Rattle.jk_math.specs.Raster.{places_of}
use Rattle.jk_math.proofs.Laws.{raster_length}
use Rattle.jk_tile.specs.decoding.TileReading.{component_samples}
use Rattle.jk_tile.proofs.Laws.{IsPut, vector_items, with_same}
use Rattle.jk_code.specs.Tiles.{plane_in}
use Rattle.jk_code.proofs.Placing.{tile_agrees, shown_vector, shown_vectors, planes_put, planes_keep, planes_show}
use Rattle.jk_code.proofs.decoding.put_tile.Goals as goal

pub bounds-shown-c : goal.bounds-shown-c
bounds-shown-c c =
    let n = shown_vectors c.args.tile.now.bytes c.args.tile.now.headers c.args.tile.now.reduce c.args.tile.now.number c.args.part.now c.args.tile.now.packets c.args.shown.now c.requires.shown in
    omega (arith, c.loop-c-test.true, c.len-c-end.ensures, c.requires.planes.count, c.args.planes.now.ok, n)

pub put-requires-clause-part : goal.put-requires-clause-part
put-requires-clause-part c = c.requires.part.inside

pub put-requires-clause-whole : goal.put-requires-clause-whole
put-requires-clause-whole c =
    let h = c.args.tile.now.headers in
    let few : c.loop-c.c < h.siz.components = omega (arith, c.loop-c-test.true, c.len-c-end.ensures, c.requires.planes.count, c.args.planes.now.ok) in
    let inside : c.loop-c.c < length c.loop-c.planes.items = omega (arith, few, c.loop-c.invariant.planes.count) in
    ap (λ (l : List ℤ). length l) (c.deref_mut.ensures.value ∙ vector_items c.loop-c.planes.items c.loop-c.c c.index_mut.result.now inside c.index_mut.ensures.value) ∙ c.loop-c.invariant.planes.each c.loop-c.c few

pub put-requires-clause-values : goal.put-requires-clause-values
put-requires-clause-values c =
    let h = c.args.tile.now.headers in
    let t = c.args.tile.now.number in
    let part = c.args.part.now in
    let few : c.loop-c.c < h.siz.components = omega (arith, c.loop-c-test.true, c.len-c-end.ensures, c.requires.planes.count, c.args.planes.now.ok) in
    ap (λ (l : List ℤ). length l) (c.deref.ensures.value ∙ shown_vector c.args.tile.now.bytes h c.args.tile.now.reduce t c.loop-c.c part c.args.tile.now.packets c.args.shown.now c.index-shown-c.result c.requires.shown few c.index-shown-c.is)
    ∙ raster_length part (component_samples c.args.tile.now.bytes h t c.args.tile.now.reduce c.args.tile.now.packets c.loop-c.c)

pub loop-c-preserved : goal.loop-c-preserved
loop-c-preserved c =
    let bytes = c.args.tile.now.bytes in
    let h = c.args.tile.now.headers in
    let t = c.args.tile.now.number in
    let d = c.args.tile.now.reduce in
    let a = c.args.area.now in
    let part = c.args.part.now in
    let i = c.loop-c.c in
    let few : i < h.siz.components = omega (arith, c.loop-c-test.true, c.len-c-end.ensures, c.requires.planes.count, c.args.planes.now.ok) in
    let inside : i < length c.loop-c.planes.items = omega (arith, few, c.loop-c.invariant.planes.count) in
    let values = c.deref.ensures.value ∙ shown_vector bytes h d t i part c.args.tile.now.packets c.args.shown.now c.index-shown-c.result c.requires.shown few c.index-shown-c.is in
    let agrees = tile_agrees bytes h d t i part c.args.tile.now.packets c.deref.result.now c.requires.sound.siz c.requires.number c.requires.packets c.requires.part.tile values in
    let lent = c.deref_mut.ensures.value ∙ vector_items c.loop-c.planes.items i c.index_mut.result.now inside c.index_mut.ensures.value in
    let w = with_items c.index_mut.result.now c.put.new.plane in
    let back = with_same c.index_mut.result.now c.put.new.plane (c.put.ensures.long ∙ ap (λ (l : List ℤ). length l) c.deref_mut.ensures.value) in
    let put : IsPut a part (plane_in c.loop-c.planes.items i) w.items c.deref.result.now =
    subst (λ l. IsPut a part (plane_in c.loop-c.planes.items i) l c.deref.result.now) (sym back)
    (subst (λ l. IsPut a part l c.put.new.plane c.deref.result.now) lent c.put.ensures.value) in
    let long : length w.items ≡ places_of a = ap (λ (l : List ℤ). length l) back ∙ c.put.ensures.long ∙ ap (λ (l : List ℤ). length l) lent ∙ c.loop-c.invariant.planes.each i few in
    let keeps = planes_keep bytes h d a i c.loop-c.planes.items w part c.deref.result.now c.loop-c.invariant.planes few put agrees in
    record {
      planes = planes_put h a i c.loop-c.planes.items w c.loop-c.invariant.planes few long;
      keeps = λ k x y some within before. keeps k x y some within (c.loop-c.invariant.keeps k x y some within before);
      shows = planes_show bytes h d a t i c.loop-c.planes.items w part c.deref.result.now c.loop-c.invariant.planes few c.requires.part put agrees c.loop-c.invariant.shows;
    }
