use Rattle.std.proofs.Common.{◌≡◌, ◌+◌, ◌∙◌, ap, sym, subst, arith}
use Rattle.jk_math.specs.Lists.{lists_of}
use Rattle.jk_math.specs.Steps.{if_ok}
use Rattle.jk_wave.specs.climbing.Held.{rows_between}
use Rattle.jk_tile.specs.decoding.TileSources.{TileSource}
use Rattle.jk_tile.specs.TileMeaning.{shown_area}
use Rattle.jk_rows.specs.Tiles.{IsTileRows}
use Rattle.jk_rows.specs.declared.tile.TileRows.{TileRows}
use Rattle.jk_code.specs.Rows.{tile_source}
use Rattle.jk_code.specs.Tiles.{part_lists}
use Rattle.jk_code.proofs.LoneTile.{lone_planes}
use Rattle.jk_code.proofs.RowLaws.{stripe_at}
use Rattle.jk_code.proofs.rows.planes_of_lone.Goals as goal

pub step_of-requires-clause-at : goal.step_of-requires-clause-at
step_of-requires-clause-at c =
    let s = c.args.coded.now in
    let first = c.args.row.now.first in
    let y = c.args.stripe.now.y0 in
    let lone = c.requires.lone in
    subst (λ (t : TileSource). IsTileRows t y c.index_mut.result.now) (sym (c.tile_of-next.ensures ∙ ap (λ n. tile_source s n) (let e : first ≡ first + 0 = omega arith in e)))
    (subst (λ (r : TileRows). IsTileRows (tile_source s (first + 0)) y r) (sym c.index_mut.ensures.value) (c.requires.row.each 0 c.index_mut.result.now (omega (arith, lone))))

pub returns-clause-planes : goal.returns-clause-planes
returns-clause-planes c =
    let s = c.args.coded.now in
    let first = c.args.row.now.first in
    let stripe = c.args.stripe.now in
    let is = c.requires.source in
    let at = stripe_at s first stripe is c.requires.row.whole c.requires.first c.requires.stripe c.requires.left c.requires.right c.requires.from c.requires.to in
    if_ok c.step_of.result (λ v rows. lone_planes s first stripe v.items is at c.requires.lone c.requires.wide
    (subst (λ (t : TileSource). lists_of v.items ≡ part_lists t.bytes t.headers t.number t.reduce (rows_between (shown_area t.headers.siz t.number t.reduce) stripe.y0 stripe.y1) t.packets) c.tile_of-next.ensures rows)) c.step_of.ensures.rows
