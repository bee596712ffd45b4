use Rattle.std.proofs.Common.{◌≡◌, ◌<◌, ◌≤◌, ℕ, ℤ, List, length, max, sym, ap, subst, ◌∙◌, arith}
use Rattle.std.specs.Prelude.{slice_index}
use Rattle.jk_math.specs.declared.rect.Rect.{Rect}
use Rattle.jk_math.specs.Raster.{raster}
use Rattle.jk_math.proofs.Laws.{raster_length}
use Rattle.jk_marks.specs.declared.coding.Coding.{Coding}
use Rattle.jk_wave.specs.Analysis.{analysed}
use Rattle.jk_wave.specs.climbing.Held.{rows_between}
use Rattle.jk_tile.specs.encoding.Forward.{tile_value}
use Rattle.jk_tile.specs.encoding.FallingComponents.{HasMade, made_need}
use Rattle.jk_tile.proofs.encoding.ComponentFalls.{AreKnown, first_left, rows_taken, rows_small, samples_below, are_few, has_made}
use Rattle.jk_tile.proofs.encoding.MeasuredRows.{need_first, need_next, need_last}
use Rattle.jk_tile.proofs.encoding.measuring.raise_needs.Goals as goal

pub loop-y-init : goal.loop-y-init
loop-y-init c =
    let s = c.args.source.now in
    let f = tile_value c.args.image.now c.args.colours c.args.component in
    let w = c.in_ok-falling.falling in
    let first = c.in_ok-falling.ensures.first in
    let rect = c.rect-rect.ensures.value in
    let top = ap (λ (a : Rect). a.y0) rect in
    let down = c.rect-rect.ensures.frame.area.upper in
    record {
      levels = record {
        low = omega (arith, top);
        high = omega (arith, top, down);
        rect = first.0 ∙ rect;
        levels = first.1 ∙ ap (λ (k : Coding). k.levels) c.coding.ensures.value;
        place = first.2;
        taken = first_left w f (first.2 ∙ ap (λ (a : Rect). a.y0) (sym first.0)) (c.in_ok-falling.ensures.none f);
        given = c.in_ok-falling.ensures.given f;
      };
      needs = λ b lt. subst (λ y. slice_index c.args.needs.now b ≡ max (slice_index c.args.needs.now b) (made_need s s.rect.y0 y (analysed s.rect s.coding.levels f) b)) (sym top)
          (need_first s (analysed s.rect s.coding.levels f) b (slice_index c.args.needs.now b));
    }

pub give-requires-clause-standing : goal.give-requires-clause-standing
give-requires-clause-standing c =
    let now = c.loop-y.invariant.levels in
    let f = tile_value c.args.image.now c.args.colours c.args.component in
    (f, samples_below c.args.source.now c.loop-y.falling.rect f now.rect c.requires.sixteen, now.given)

pub give-requires-clause-long : goal.give-requires-clause-long
give-requires-clause-long c =
    let s = c.args.source.now in
    let f = tile_value c.args.image.now c.args.colours c.args.component in
    let w = c.loop-y.falling in
    let y : ℕ = c.loop-y.y in
    let e : ℕ = c.min-end.result in
    let now = c.loop-y.invariant.levels in
    let values = c.put_values.new.values.items in
    let rows : values ≡ raster (rows_between s.rect y e) f = c.in_ok-put_values.ensures.values ∙ ap (λ (a : Rect). raster a f) c.rows-part.ensures.value in
    let taken = rows_taken s w y e f values now.rect now.place rows in
    ap (λ (l : List ℤ). length l) taken ∙ raster_length (rows_between w.rect w.y e) f

pub give-requires-clause-small : goal.give-requires-clause-small
give-requires-clause-small c =
    let s = c.args.source.now in
    let f = tile_value c.args.image.now c.args.colours c.args.component in
    let w = c.loop-y.falling in
    let y : ℕ = c.loop-y.y in
    let e : ℕ = c.min-end.result in
    let now = c.loop-y.invariant.levels in
    let values = c.put_values.new.values.items in
    let rows : values ≡ raster (rows_between s.rect y e) f = c.in_ok-put_values.ensures.values ∙ ap (λ (a : Rect). raster a f) c.rows-part.ensures.value in
    let taken = rows_taken s w y e f values now.rect now.place rows in
    let low = now.low in
    let bottom = ap (λ (a : Rect). a.y1) c.rect-rect.ensures.value in
    let test = c.loop-y-test.true in
    let order : y ≤ e = omega (arith, c.min-end.ensures, c.saturating_add.ensures, test) in
    let last : e ≤ s.rect.y1 = omega (arith, c.min-end.ensures, bottom) in
    rows_small s y e f values low last c.requires.sixteen rows

pub raise_by_rows-requires-clause-made : goal.raise_by_rows-requires-clause-made
raise_by_rows-requires-clause-made c =
    let s = c.args.source.now in
    let f = tile_value c.args.image.now c.args.colours c.args.component in
    let w = c.loop-y.falling in
    let y : ℕ = c.loop-y.y in
    let e : ℕ = c.min-end.result in
    let now = c.loop-y.invariant.levels in
    let values = c.put_values.new.values.items in
    let rows : values ≡ raster (rows_between s.rect y e) f = c.in_ok-put_values.ensures.values ∙ ap (λ (a : Rect). raster a f) c.rows-part.ensures.value in
    let taken = rows_taken s w y e f values now.rect now.place rows in
    let low = now.low in
    let bottom = ap (λ (a : Rect). a.y1) c.rect-rect.ensures.value in
    let test = c.loop-y-test.true in
    let order : y ≤ e = omega (arith, c.min-end.ensures, c.saturating_add.ensures, test) in
    let last : e ≤ s.rect.y1 = omega (arith, c.min-end.ensures, bottom) in
    let gives = c.in_ok-give.ensures.bands f now.given taken in
    let made : HasMade s y e (analysed s.rect s.coding.levels f) c.give.new.self =
    subst (λ d. HasMade s d e (analysed s.rect s.coding.levels f) c.give.new.self) now.place (has_made s w c.give.new.self f w.y e now.rect now.levels now.taken gives.0 gives.1) in
    (y, e, analysed s.rect s.coding.levels f, are_few s f c.rect-rect.ensures.frame c.requires.sixteen, made, low, order, last)

pub loop-y-preserved : goal.loop-y-preserved
loop-y-preserved c =
    let s = c.args.source.now in
    let f = tile_value c.args.image.now c.args.colours c.args.component in
    let w = c.loop-y.falling in
    let y : ℕ = c.loop-y.y in
    let e : ℕ = c.min-end.result in
    let now = c.loop-y.invariant.levels in
    let values = c.put_values.new.values.items in
    let rows : values ≡ raster (rows_between s.rect y e) f = c.in_ok-put_values.ensures.values ∙ ap (λ (a : Rect). raster a f) c.rows-part.ensures.value in
    let taken = rows_taken s w y e f values now.rect now.place rows in
    let low = now.low in
    let bottom = ap (λ (a : Rect). a.y1) c.rect-rect.ensures.value in
    let test = c.loop-y-test.true in
    let order : y ≤ e = omega (arith, c.min-end.ensures, c.saturating_add.ensures, test) in
    let last : e ≤ s.rect.y1 = omega (arith, c.min-end.ensures, bottom) in
    let gives = c.in_ok-give.ensures.bands f now.given taken in
    let made : HasMade s y e (analysed s.rect s.coding.levels f) c.give.new.self =
    subst (λ d. HasMade s d e (analysed s.rect s.coding.levels f) c.give.new.self) now.place (has_made s w c.give.new.self f w.y e now.rect now.levels now.taken gives.0 gives.1) in
    let known : AreKnown = record { falls_none = c.level_fallen.ensures.none; falls_all = c.level_fallen.ensures.all; falls_in_order = c.level_fallen.ensures.order; given_none = c.levels_fallen.ensures.none; given_all = c.levels_fallen.ensures.all; given_in_order = c.levels_fallen.ensures.order } in
    let same = c.in_ok-give.ensures.same in
    let cleared = c.clear.ensures.same in
    let levels = cleared.1 in
    record {
      levels = record {
        low = omega (arith, low, order);
        high = last;
        rect = cleared.0 ∙ same.0 ∙ now.rect;
        levels = cleared.1 ∙ same.1 ∙ now.levels;
        place = cleared.2 ∙ same.2;
        taken = record {
          high = λ n o other less some few. c.clear.ensures.high n o other (omega (arith, less, levels)) some few;
          low = c.clear.ensures.low;
        };
        given = c.clear.ensures.given f (c.in_ok-give.ensures.given f now.given taken);
      };
      needs = λ b lt. need_next known s s.rect.y0 y e b (slice_index c.args.needs.now b) (slice_index c.loop-y.needs b) (slice_index c.raise_by_rows.new.needs b) (analysed s.rect s.coding.levels f) c.rect-rect.ensures.frame low order lt
          (c.loop-y.invariant.needs b lt) (c.raise_by_rows.ensures y e (analysed s.rect s.coding.levels f) made b lt);
    }

pub returns-clause-needs : goal.returns-clause-needs
returns-clause-needs c b lt =
    let s = c.args.source.now in
    let f = tile_value c.args.image.now c.args.colours c.args.component in
    let known : AreKnown = record { falls_none = c.level_fallen.ensures.none; falls_all = c.level_fallen.ensures.all; falls_in_order = c.level_fallen.ensures.order; given_none = c.levels_fallen.ensures.none; given_all = c.levels_fallen.ensures.all; given_in_order = c.levels_fallen.ensures.order } in
    let now = c.loop-y.invariant.levels in
    let high = now.high in
    let bottom = ap (λ (a : Rect). a.y1) c.rect-rect.ensures.value in
    let last : c.loop-y.y ≡ s.rect.y1 = omega (arith, high, bottom, c.loop-y-test.false) in
    let old : ℕ = slice_index c.args.needs.now b in
    c.loop-y.invariant.needs b lt ∙ ap (λ n. max old (made_need s s.rect.y0 n (analysed s.rect s.coding.levels f) b)) last ∙ ap (max old) (need_last known s b f c.rect-rect.ensures.frame lt)
