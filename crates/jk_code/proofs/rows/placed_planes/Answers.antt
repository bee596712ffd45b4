use Rattle.std.proofs.Common.{◌≡◌, ℕ, ◌+◌, ◌<◌, inl, inr, List, [], get_or, Ok, ℤ, refl, ◌∙◌, ap, sym, subst, arith}
use Rattle.std.specs.Global.{Vec}
use Rattle.std.proofs.lemmas.Bool.{cases_eq}
use Rattle.jk_math.specs.declared.rect.Rect.{Rect}
use Rattle.jk_math.specs.Lists.{lists_of}
use Rattle.jk_marks.specs.declared.siz.Siz.{Siz}
use Rattle.jk_marks.specs.Siz.{tiles_across}
use Rattle.jk_walk.specs.WalkReading.{packets_at}
use Rattle.jk_wave.specs.climbing.Held.{rows_between}
use Rattle.jk_tile.specs.decoding.TileReading.{tested, tile_planes_at}
use Rattle.jk_tile.specs.decoding.TileSources.{TileSource}
use Rattle.jk_tile.specs.TileMeaning.{shown_area}
use Rattle.jk_tile.proofs.Laws.{fine}
use Rattle.jk_rows.specs.Components.{IsStepEnd}
use Rattle.jk_rows.specs.declared.tile.TileRows.{TileRows}
use Rattle.jk_rows.specs.Tiles.{IsTileRows}
use Rattle.jk_rows.proofs.Laws.{each_set, left_set, count_set}
use Rattle.jk_code.specs.Sources.{ImageSource, IsImageSource}
use Rattle.jk_code.specs.Rows.{tile_source, part_of_stripe}
use Rattle.jk_code.specs.Tiles.{ArePlanes, KeepsSamples, ShowsTileAt, IsPartSeen, part_lists}
use Rattle.jk_code.proofs.Placing.{planes_are}
use Rattle.jk_code.proofs.TileRowing.{beside}
use Rattle.jk_code.proofs.RowLaws.{stripe_at, step_end_of, part_seen, all_shown, stripe_inside}
use Rattle.jk_code.proofs.rows.placed_planes.Goals as goal

pub loop-k-init : goal.loop-k-init
loop-k-init c =
    let stripe = c.args.stripe.now in
    let siz = ap (λ (s : Siz). s.components) c.siz.ensures in
    record {
      begins = refl;
      count = c.requires.row.count;
      planes = subst (λ (s : ImageSource). ArePlanes s.headers stripe c.in_ok-planes.planes.items) c.coded.view_is (record {
        count = c.in_ok-planes.ensures.count ∙ siz;
        each = λ i lt. c.in_ok-planes.ensures.each i (omega (arith, lt, siz));
      });
      shows = λ j lt. absurd (omega (arith, lt));
      done = λ j other lt. absurd (omega (arith, lt));
      left = λ j other from lt. c.requires.row.each j other lt;
      fine = λ last j lt. absurd (omega (arith, lt));
    }

pub tile_of-next-requires : goal.tile_of-next-requires
tile_of-next-requires c =
    let whole = c.requires.row.whole in
    let begins = c.loop-k.invariant.begins in
    let count = c.loop-k.invariant.count in
    omega (arith, whole, begins, count, c.loop-k-test.true, c.len-k-end.ensures)

-- the tile that is next
same_of : (s : ImageSource) (m first k : ℕ) (t : TileSource) → t ≡ tile_source s (m + k) → m ≡ first → t ≡ tile_source s (first + k)
same_of s m first k t e begins = e ∙ ap (λ n. tile_source s (n + k)) begins

pub part_of_stripe-part-requires : goal.part_of_stripe-part-requires
part_of_stripe-part-requires c =
    let whole = c.requires.row.whole in
    let begins = c.loop-k.invariant.begins in
    let count = c.loop-k.invariant.count in
    omega (arith, whole, begins, count, c.loop-k-test.true, c.len-k-end.ensures)

pub step_of-requires-clause-at : goal.step_of-requires-clause-at
step_of-requires-clause-at c =
    let s = c.args.coded.now in
    let first = c.args.row.now.first in
    let y = c.args.stripe.now.y0 in
    let k : ℕ = c.loop-k.k in
    let count = c.loop-k.invariant.count in
    let src = same_of s c.loop-k.row.first first k c.tile_of-next.result c.tile_of-next.ensures c.loop-k.invariant.begins in
    subst (λ (t : TileSource). IsTileRows t y c.index_mut.result.now) (sym src)
    (subst (λ (r : TileRows). IsTileRows (tile_source s (first + k)) y r) (sym c.index_mut.ensures.value) (c.loop-k.invariant.left k c.index_mut.result.now (omega arith) (omega (arith, count, c.loop-k-test.true, c.len-k-end.ensures))))

pub step_of-requires-clause-first : goal.step_of-requires-clause-first
step_of-requires-clause-first c =
    let s = c.args.coded.now in
    let first = c.args.row.now.first in
    let k : ℕ = c.loop-k.k in
    let count = c.loop-k.invariant.count in
    let lt : k < tiles_across s.headers.siz = omega (arith, count, c.loop-k-test.true, c.len-k-end.ensures) in
    let src = same_of s c.loop-k.row.first first k c.tile_of-next.result c.tile_of-next.ensures c.loop-k.invariant.begins in
    subst (λ (t : TileSource). IsStepEnd (shown_area t.headers.siz t.number t.reduce) c.args.stripe.now.y0) (sym src) (step_end_of s first k c.args.stripe.now.y0 c.requires.first lt c.requires.from)

pub step_of-requires-clause-last : goal.step_of-requires-clause-last
step_of-requires-clause-last c =
    let s = c.args.coded.now in
    let first = c.args.row.now.first in
    let k : ℕ = c.loop-k.k in
    let count = c.loop-k.invariant.count in
    let lt : k < tiles_across s.headers.siz = omega (arith, count, c.loop-k-test.true, c.len-k-end.ensures) in
    let src = same_of s c.loop-k.row.first first k c.tile_of-next.result c.tile_of-next.ensures c.loop-k.invariant.begins in
    subst (λ (t : TileSource). IsStepEnd (shown_area t.headers.siz t.number t.reduce) c.args.stripe.now.y1) (sym src) (step_end_of s first k c.args.stripe.now.y1 c.requires.first lt c.requires.to)

pub put_tile-requires-clause-part : goal.put_tile-requires-clause-part
put_tile-requires-clause-part c =
    let s = c.args.coded.now in
    let first = c.args.row.now.first in
    let stripe = c.args.stripe.now in
    let k : ℕ = c.loop-k.k in
    let is = subst IsImageSource c.coded.view_is c.coded.invariant in
    let at = stripe_at s first stripe is c.requires.row.whole c.requires.first c.requires.stripe c.requires.left c.requires.right c.requires.from c.requires.to in
    let count = c.loop-k.invariant.count in
    let lt : k < tiles_across s.headers.siz = omega (arith, count, c.loop-k-test.true, c.len-k-end.ensures) in
    let src = same_of s c.loop-k.row.first first k c.tile_of-next.result c.tile_of-next.ensures c.loop-k.invariant.begins in
    let part = c.part_of_stripe-part.ensures ∙ ap (λ n. part_of_stripe s (n + k) stripe) c.loop-k.invariant.begins in
    subst (λ (t : TileSource). IsPartSeen t.headers t.reduce t.number stripe c.part_of_stripe-part.result) (sym src)
    (subst (IsPartSeen s.headers s.reduce (first + k) stripe) (sym part) (part_seen s first k stripe is at lt))

pub put_tile-requires-clause-shown : goal.put_tile-requires-clause-shown
put_tile-requires-clause-shown c =
    let s = c.args.coded.now in
    let first = c.args.row.now.first in
    let stripe = c.args.stripe.now in
    let k : ℕ = c.loop-k.k in
    let src = same_of s c.loop-k.row.first first k c.tile_of-next.result c.tile_of-next.ensures c.loop-k.invariant.begins in
    let part = c.part_of_stripe-part.ensures ∙ ap (λ n. part_of_stripe s (n + k) stripe) c.loop-k.invariant.begins in
    ap (λ (vs : List (Vec ℤ)). lists_of vs) c.deref.ensures.value
    ∙ subst (λ (t : TileSource). lists_of c.in_ok-values.values.items ≡ part_lists t.bytes t.headers t.number t.reduce c.part_of_stripe-part.result t.packets) (sym src)
    (subst (λ (a : Rect). lists_of c.in_ok-values.values.items ≡ part_lists s.bytes s.headers (first + k) s.reduce a (get_or s.packets (first + k) [])) (sym part)
    (subst (λ (t : TileSource). lists_of c.in_ok-values.values.items ≡ part_lists t.bytes t.headers t.number t.reduce (rows_between (shown_area t.headers.siz t.number t.reduce) stripe.y0 stripe.y1) t.packets) src c.in_ok-values.ensures.rows))

pub put_tile-requires-clause-packets : goal.put_tile-requires-clause-packets
put_tile-requires-clause-packets c =
    let s = c.args.coded.now in
    let first = c.args.row.now.first in
    let k : ℕ = c.loop-k.k in
    let is = subst IsImageSource c.coded.view_is c.coded.invariant in
    let whole = c.requires.row.whole in
    let count = c.loop-k.invariant.count in
    let src = same_of s c.loop-k.row.first first k c.tile_of-next.result c.tile_of-next.ensures c.loop-k.invariant.begins in
    subst (λ (t : TileSource). packets_at t.bytes t.headers t.number ≡ Ok t.packets) (sym src) (is.packets.each (first + k) (omega (arith, whole, count, c.loop-k-test.true, c.len-k-end.ensures)))

pub loop-k-preserved : goal.loop-k-preserved
loop-k-preserved c =
    let s = c.args.coded.now in
    let first = c.args.row.now.first in
    let stripe = c.args.stripe.now in
    let k : ℕ = c.loop-k.k in
    let h = s.headers in
    let n = h.siz.components in
    let items = c.loop-k.row.tiles.items in
    let one = c.step_of.new.self in
    let count = c.loop-k.invariant.count in
    let src = same_of s c.loop-k.row.first first k c.tile_of-next.result c.tile_of-next.ensures c.loop-k.invariant.begins in
    let here = subst (λ (t : TileSource). IsTileRows t stripe.y1 one) src c.in_ok-values.ensures.at in
    let old = c.loop-k.planes.items in
    let new = c.put_tile.new.planes.items in
    let planes = subst (λ (t : TileSource). ArePlanes t.headers stripe new) src c.put_tile.ensures.planes in
    let keeps = subst (λ (t : TileSource). KeepsSamples t.bytes t.headers t.reduce stripe old new) src c.put_tile.ensures.keeps in
    let shows = subst (λ (t : TileSource). ShowsTileAt t.bytes t.headers t.reduce stripe t.number t.headers.siz.components new) src c.put_tile.ensures.shows in
    let fine_here = subst (λ (t : TileSource). stripe.y1 ≡ (shown_area t.headers.siz t.number t.reduce).y1 → tested (tile_planes_at t.bytes t.headers t.number t.reduce t.packets) ≡ fine) src c.in_ok-values.ensures.fine in
    let lt : k < tiles_across h.siz = omega (arith, count, c.loop-k-test.true, c.len-k-end.ensures) in
    record {
      begins = c.loop-k.invariant.begins;
      count = count_set k (tiles_across h.siz) items one count;
      planes = planes;
      shows = λ j less. elim (cases_eq j k) [
        | inl same ↦ subst (λ m. ShowsTileAt s.bytes h s.reduce stripe (first + m) n new) (sym same) shows
        | inr other ↦ λ i x y some within inside. keeps i x y some inside (c.loop-k.invariant.shows j (omega (arith, less, other)) i x y some within inside)
      ];
      done = each_set (λ j r. IsTileRows (tile_source s (first + j)) stripe.y1 r) k items one (omega (arith, c.loop-k-test.true, c.len-k-end.ensures)) c.loop-k.invariant.done here;
      left = left_set (λ j r. IsTileRows (tile_source s (first + j)) stripe.y0 r) k (tiles_across h.siz) items one c.loop-k.invariant.left;
      fine = λ last j less. elim (cases_eq j k) [
        | inl same ↦ subst (λ m. tested (tile_planes_at s.bytes h (first + m) s.reduce (get_or s.packets (first + m) [])) ≡ fine) (sym same)
            (fine_here (last ∙ sym (beside h.siz s.reduce first k c.requires.first lt).1))
        | inr other ↦ c.loop-k.invariant.fine last j (omega (arith, less, other))
      ];
    }

pub returns-clause-row : goal.returns-clause-row
returns-clause-row c =
    let s = c.args.coded.now in
    let count = c.loop-k.invariant.count in
    let all : c.loop-k.k ≡ tiles_across s.headers.siz = omega (arith, count, c.loop-k-test.false, c.loop-k.auto.k-end, c.len-k-end.ensures) in
    record {
      begins = c.loop-k.invariant.begins;
      whole = c.requires.row.whole;
      count = count;
      each = λ j other lt. c.loop-k.invariant.done j other (omega (arith, lt, all));
    }

pub returns-clause-planes : goal.returns-clause-planes
returns-clause-planes c =
    let s = c.args.coded.now in
    let first = c.args.row.now.first in
    let stripe = c.args.stripe.now in
    let is = subst IsImageSource c.coded.view_is c.coded.invariant in
    let at = stripe_at s first stripe is c.requires.row.whole c.requires.first c.requires.stripe c.requires.left c.requires.right c.requires.from c.requires.to in
    let count = c.loop-k.invariant.count in
    let all : c.loop-k.k ≡ tiles_across s.headers.siz = omega (arith, count, c.loop-k-test.false, c.loop-k.auto.k-end, c.len-k-end.ensures) in
    planes_are s.bytes s.headers s.reduce stripe c.loop-k.planes.items is.sound.siz (stripe_inside s first stripe is at) c.loop-k.invariant.planes
    (all_shown s first stripe c.loop-k.planes.items is at (λ j lt. c.loop-k.invariant.shows j (omega (arith, lt, all))))

pub returns-clause-fine : goal.returns-clause-fine
returns-clause-fine c = λ last j lt.
    let count = c.loop-k.invariant.count in
    c.loop-k.invariant.fine last j (omega (arith, lt, count, c.loop-k-test.false, c.loop-k.auto.k-end, c.len-k-end.ensures))
