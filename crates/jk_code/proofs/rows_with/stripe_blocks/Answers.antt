use Rattle.std.proofs.Common.{◌+◌, ℕ, length, ◌∙◌, ap, sym, subst, arith}
use Rattle.jk_marks.specs.Siz.{tiles_across}
use Rattle.jk_tile.specs.decoding.Decoded.{AreSegments}
use Rattle.jk_tile.specs.decoding.TileSources.{TileSource}
use Rattle.jk_rows.specs.declared.tile.TileRows.{TileRows}
use Rattle.jk_rows.specs.Tiles.{IsTileRows}
use Rattle.jk_code.specs.Rows.{tile_source}
use Rattle.jk_code.specs.Sources.{ImageSource}
use Rattle.jk_code.proofs.rows_with.stripe_blocks.Goals as goal

pub tile_of-next-requires : goal.tile_of-next-requires
tile_of-next-requires c =
    let whole = c.requires.row.1.whole in
    let across = c.tiles_across-k-end.ensures.value ∙ ap tiles_across c.siz.ensures ∙ ap (λ (x : ImageSource). tiles_across x.headers.siz) c.coded.view_is in
    omega (arith, whole, across, c.loop-k-test.true)

pub loop-k-preserved : goal.loop-k-preserved
loop-k-preserved c =
    let new = c.add_blocks.new.segments.items in
    subst (λ (t : TileSource). AreSegments (length t.bytes) new) c.tile_of-next.ensures
    (c.in_ok-add_blocks.ensures.segments (subst (λ (t : TileSource). AreSegments (length t.bytes) c.loop-k.segments.items) (sym c.tile_of-next.ensures) c.loop-k.invariant))

pub add_blocks-requires-clause-at : goal.add_blocks-requires-clause-at
add_blocks-requires-clause-at c =
    let s = c.args.coded.now in
    let first = c.args.row.now.first in
    let y = c.requires.row.0 in
    let k : ℕ = c.loop-k.k in
    let across = c.tiles_across-k-end.ensures.value ∙ ap tiles_across c.siz.ensures ∙ ap (λ (x : ImageSource). tiles_across x.headers.siz) c.coded.view_is in (
      y,
      subst (λ (t : TileSource). IsTileRows t y c.index.result.now) (sym c.tile_of-next.ensures)
          (subst (λ (r : TileRows). IsTileRows (tile_source s (first + k)) y r) (sym c.index.ensures) (c.requires.row.1.each k c.index.result.now (omega (arith, across, c.loop-k-test.true)))),
    )
