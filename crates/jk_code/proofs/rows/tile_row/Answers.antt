use Rattle.std.proofs.Common.{ℕ, ◌+◌, length, ap, subst, arith}
use Rattle.jk_tile.specs.decoding.TileSources.{TileSource}
use Rattle.jk_tile.specs.TileMeaning.{shown_area}
use Rattle.jk_rows.specs.declared.tile.TileRows.{TileRows}
use Rattle.jk_rows.specs.Tiles.{IsTileRows}
use Rattle.jk_rows.proofs.Laws.{count_pushed, each_pushed}
use Rattle.jk_code.specs.Rows.{tile_source, area_of_tile}
use Rattle.jk_code.proofs.rows.tile_row.Goals as goal

pub loop-k-init : goal.loop-k-init
loop-k-init c = record {
  count = ap length c.new-tiles.ensures.items;
  each = λ j other lt. absurd (omega (arith, lt));
}

pub loop-k-preserved : goal.loop-k-preserved
loop-k-preserved c =
    let s = c.args.coded.now in
    let first = c.args.first in
    let k : ℕ = c.loop-k.k in
    let y : ℕ = (area_of_tile s first).y0 in
    let one : TileRows = c.in_ok-new.field-0 in
    let n = c.loop-k.invariant.count in
    let at = subst (λ (t : TileSource). IsTileRows t (shown_area t.headers.siz t.number t.reduce).y0 one) c.tile_of.ensures c.in_ok-new.ensures.at in
    let here = subst (λ m. IsTileRows (tile_source s (first + k)) m one) (c.requires.beside k c.loop-k-test.true) at in
    record {
      count = count_pushed k c.loop-k.tiles.items c.push.new.self.items one n c.in_ok-push.ensures.items;
      each = each_pushed (λ j r. IsTileRows (tile_source s (first + j)) y r) k c.loop-k.tiles.items c.push.new.self.items one n c.in_ok-push.ensures.items c.loop-k.invariant.each here;
    }
