use Rattle.std.proofs.Common.{◌∙◌, refl, arith}
use Rattle.std.proofs.lemmas.List.Elements.{All-take, All-drop}
use Rattle.jk_math.specs.Raster.{places_of}
use Rattle.jk_math.specs.Signed.{IsBelow}
use Rattle.jk_tile.proofs.Fillings.{row_length, row_inside, row_more, whole_rows, whole_fits}
use Rattle.jk_tile.proofs.decoding.filling.put.Goals as goal

pub put_row-requires : goal.put_row-requires
put_row-requires c =
    let area = c.args.area.now in
    let inside = row_inside (whole_rows area) c.args.part.now c.loop-row.row (places_of area) (whole_fits area) c.requires.part c.loop-row-test.true in
    omega (arith, inside, row_length c.args.part.now c.loop-row.row c.args.values.now c.loop-row-test.true c.requires.values, c.loop-row.invariant.long, c.requires.whole)

pub loop-row-preserved : goal.loop-row-preserved
loop-row-preserved c = record {
  long = c.put_row.ensures.long ∙ c.loop-row.invariant.long;
  value = row_more c.args.area.now c.args.part.now c.loop-row.row _ c.args.plane.now c.loop-row.plane c.put_row.new.plane c.args.values.now c.requires.part c.requires.values c.loop-row-test.true refl c.put_row.ensures.value c.loop-row.invariant.value;
  small = λ m old values. c.put_row.ensures.small m (c.loop-row.invariant.small m old values) (All-take (IsBelow m) _ _ (All-drop (IsBelow m) _ c.args.values.now values));
}
