use Rattle.std.proofs.Common.{◌*◌, ◌≤◌, refl, subst, sym}
use Rattle.jk_math.specs.Raster.{plane_at}
use Rattle.jk_scan.specs.declared.shape.BlockShape.{BlockShape}
use Rattle.jk_tile.proofs.encoding.WrittenBlocks.{block_long, block_small}
use Rattle.jk_tile.proofs.encoding.cutting.cut_block.Goals as goal

pub returns-clause-block : goal.returns-clause-block
returns-clause-block c =
    let fits = c.requires.fits in
    let is = sym c.shape_at-shape.ensures in
    record {
      narrow = subst (λ (s : BlockShape). s.width ≤ 1024) is fits.narrow;
      low = subst (λ (s : BlockShape). s.height ≤ 1024) is fits.low;
      area = subst (λ (s : BlockShape). s.width * s.height ≤ 4096) is fits.area;
      whole = block_long c.args.place.now (plane_at c.args.area.now c.args.values.now) c.in_ok-cut_out.field-0.items c.args.orientation c.args.style c.shape_at-shape.result c.in_ok-cut_out.ensures.value c.shape_at-shape.ensures;
      small = block_small c.args.area.now c.args.place.now c.args.values.now c.args.values.now c.in_ok-cut_out.field-0.items c.requires.part c.requires.whole refl c.requires.small c.in_ok-cut_out.ensures.value;
    }
