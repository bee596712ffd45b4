use Rattle.std.proofs.Common.{◌≡◌, ◌+◌, true, length, refl, sym, subst, ◌∙◌, arith}
use Rattle.jk_math.specs.declared.rect.Rect.{Rect}
use Rattle.jk_geom.specs.Rectangles.{meet}
use Rattle.jk_tile.specs.Filling.{IsPartOf, touches}
use Rattle.jk_tile.proofs.Fillings.{AreCommonRows, common_part, common_fits, common_length, common_more, row_inside}
use Rattle.jk_tile.proofs.decoding.filling.put_common.Goals as goal

-- what both have in common is a part of each
of_area : (area place u : Rect) → touches place area ≡ true → u ≡ meet place area → IsPartOf u area
of_area area place u e is = subst (λ (q : Rect). IsPartOf q area) (sym is) (common_part place area e).0

of_place : (area place u : Rect) → touches place area ≡ true → u ≡ meet place area → IsPartOf u place
of_place area place u e is = subst (λ (q : Rect). IsPartOf q place) (sym is) (common_part place area e).1

pub slice_bounds-put_row-end : goal.slice_bounds-put_row-end
slice_bounds-put_row-end c =
    let u = c.meet-common.result in
    let place = c.args.place.now in
    let fits = common_fits place u c.loop-row.row (of_place c.args.lies.now.area place u c.requires.touches c.meet-common.ensures) c.loop-row-test.true in
    omega (arith, fits, c.requires.values)

pub put_row-requires : goal.put_row-requires
put_row-requires c =
    let u = c.meet-common.result in
    let v = c.args.lies.now in
    let place = c.args.place.now in
    let part = of_place v.area place u c.requires.touches c.meet-common.ensures in
    let inside = row_inside v u c.loop-row.row (length c.args.rows.now) c.requires.fits (of_area v.area place u c.requires.touches c.meet-common.ensures) c.loop-row-test.true in
    let long = common_length place u c.loop-row.row _ _ c.args.values.now part c.loop-row-test.true c.requires.values refl refl in
    omega (arith, inside, long, c.loop-row.invariant.long)

pub loop-row-preserved : goal.loop-row-preserved
loop-row-preserved c =
    let u = c.meet-common.result in
    let v = c.args.lies.now in
    let place = c.args.place.now in
    let before = subst (λ (q : Rect). AreCommonRows v place q c.loop-row.row c.args.values.now c.args.rows.now c.loop-row.rows) (sym c.meet-common.ensures) c.loop-row.invariant.written in
    record {
      long = c.put_row.ensures.long ∙ c.loop-row.invariant.long;
      written = subst (λ (q : Rect). AreCommonRows v place q (c.loop-row.row + 1) c.args.values.now c.args.rows.now c.put_row.new.plane) c.meet-common.ensures
          (common_more v place u c.loop-row.row _ _ _ c.args.values.now c.args.rows.now c.loop-row.rows c.put_row.new.plane c.requires.apart
          (of_area v.area place u c.requires.touches c.meet-common.ensures) (of_place v.area place u c.requires.touches c.meet-common.ensures) c.loop-row-test.true c.requires.values
          refl refl refl c.put_row.ensures.value before);
    }
