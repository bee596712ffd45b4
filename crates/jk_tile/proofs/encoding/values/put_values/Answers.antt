use Rattle.std.proofs.Common.{◌≡◌, ◌+◌, ◌++◌, ℕ, List, ℤ, length, sym, ap, ◌∙◌, arith}
use Rattle.jk_math.specs.Raster.{raster}
use Rattle.jk_wave.specs.climbing.Held.{rows_between}
use Rattle.jk_wave.proofs.Laws.{joined, no_rows}
use Rattle.jk_wave.proofs.Rows.{written_items}
use Rattle.jk_tile.specs.encoding.Forward.{tile_value}
use Rattle.jk_tile.proofs.encoding.WrittenRows.{row_made}
use Rattle.jk_tile.proofs.encoding.values.put_values.Goals as goal

pub loop-y-init : goal.loop-y-init
loop-y-init c =
    let a = c.args.rect.now in
    let row = c.in_ok-row.row in
    record {
      rows = c.clear.ensures.items ∙ sym (no_rows a a.y0 a.y0 (tile_value c.args.image.now c.args.colours c.args.component) (omega arith));
      long = omega (arith, c.in_ok-row.ensures.len, row.ok.0);
    }

pub loop-y-preserved : goal.loop-y-preserved
loop-y-preserved c =
    let a = c.args.rect.now in
    let f = tile_value c.args.image.now c.args.colours c.args.component in
    let y : ℕ = c.loop-y.y in
    let now = c.loop-y.invariant in
    let held = c.loop-y.row in
    let made = c.put_row.new.row in
    let kept : length made ≡ length held.items = c.put_row.auto.row ∙ ap (λ (l : List ℤ). length l) c.deref_mut.ensures.value in
    let all = written_items held.len made held.items (omega (arith, held.ok.0, kept)) kept in
    let one : made ≡ raster (rows_between a y (y + 1)) f = row_made a f y made (kept ∙ now.long) c.put_row.ensures in
    record {
      rows = c.in_ok-extend_from_slice.ensures.items ∙ ap (λ (l : List ℤ). c.loop-y.values.items ++ l) (c.deref.ensures.value ∙ all ∙ one) ∙ ap (λ (l : List ℤ). l ++ raster (rows_between a y (y + 1)) f) now.rows
          ∙ joined a a.y0 y (y + 1) f (omega arith) (omega arith);
      long = ap (λ (l : List ℤ). length l) all ∙ kept ∙ now.long;
    }

pub returns-clause-values : goal.returns-clause-values
returns-clause-values c =
    let a = c.args.rect.now in
    let down = c.requires.rect.down in
    let end : c.loop-y.y ≡ a.y1 = omega (arith, down, c.loop-y-test.false, c.loop-y.auto.y, c.loop-y.auto.y-end) in
    c.loop-y.invariant.rows ∙ ap (λ n. raster (rows_between a a.y0 n) (tile_value c.args.image.now c.args.colours c.args.component)) end
