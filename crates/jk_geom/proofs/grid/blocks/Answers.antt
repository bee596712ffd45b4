use Rattle.std.proofs.Common.{◌≡◌, ◌≤◌, ◌^◌, min, ap, sym, ◌∙◌, subst, arith}
use Rattle.jk_math.specs.declared.rect.Rect.{Rect}
use Rattle.jk_geom.specs.declared.grid.BlockGrid.{BlockGrid}
use Rattle.jk_geom.specs.Precincts.{part_width, part_height, precinct_area}
use Rattle.jk_geom.specs.Blocks.{grid_of, block_grid}
use Rattle.jk_geom.proofs.FewBlocks.{few_blocks}
use Rattle.jk_geom.proofs.grid.blocks.Goals as goal

pub returns-clause-few : goal.returns-clause-few
unfolding block_grid
returns-clause-few c =
    let k = c.args.coding.now in
    let part = precinct_area c.args.rect.now k c.args.r c.args.k c.args.orientation in
    let width : c.min.result ≡ min k.xcb (part_width k c.args.r) = (let e = c.min.ensures in let w = c.precinct_part_size-width.ensures.width in omega (arith, e, w)) in
    let height : c.min-2.result ≡ min k.ycb (part_height k c.args.r) = (let e = c.min-2.ensures in let h = c.precinct_part_size-width.ensures.height in omega (arith, e, h)) in
    let is : c.grid.result ≡ block_grid c.args.rect.now k c.args.r c.args.k c.args.orientation =
    c.grid.ensures.value
    ∙ (ap (λ (a : Rect). grid_of a c.min.result c.min-2.result) c.precinct-area.ensures.value
    ∙ (ap (λ w. grid_of part w c.min-2.result) width ∙ ap (λ h. grid_of part (min k.xcb (part_width k c.args.r)) h) height)) in
    subst (λ (g : BlockGrid). (g.across ≤ 2 ^ 13) × (g.down ≤ 2 ^ 13)) (sym is) (few_blocks c.args.rect.now k c.args.r c.args.k c.args.orientation c.requires.coding c.requires.r)
