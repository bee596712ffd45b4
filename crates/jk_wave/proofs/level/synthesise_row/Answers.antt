use Rattle.std.proofs.Common.{◌≡◌, ℕ, ◌+◌, ◌-◌, ◌*◌, ◌<◌, length, take, drop, ◌∙◌, ap, arith}
use borrow.Rule.Slice.PartMut.{put_mid}
use Rattle.jk_math.specs.Raster.{columns_of, rows_of}
use Rattle.jk_math.specs.Signed.{signed_at}
use Rattle.jk_lift.specs.Samples.{woven}
use Rattle.jk_wave.specs.Levels.{half_area}
use Rattle.jk_wave.specs.LevelRows.{woven_rows}
use Rattle.jk_wave.proofs.PutRows.{lent_row}
use Rattle.jk_wave.proofs.Rows.{row_inside, mid_put, row_kept}
use Rattle.jk_wave.proofs.Synthesis.{row_woven, line_samples}
use Rattle.jk_wave.proofs.level.synthesise_row.Goals as goal

pub returns-clause-written : goal.returns-clause-written
returns-clause-written c x h =
    let area = c.args.area.now in
    let w : ℕ = columns_of area in
    let row : ℕ = c.args.row in
    let n : ℕ = length c.args.line.now in
    let rows = c.args.rows.now in
    let line = c.copy_from_slice.new.self in
    let wide : n ≡ w = c.requires.line in
    let fits = row_inside w (rows_of area) row c.requires.row in
    let at : row * n ≡ row * w = ap (λ k. row * k) wide in
    let place : row * w + x ≡ row * n + x = omega arith in
    let copied : (k : ℕ) → k < w → signed_at line k ≡ signed_at rows (row * w + k) = λ k lt.
    ap (λ l. signed_at l k) c.copy_from_slice.ensures.after ∙ lent_row rows (row * n) _ k (omega arith) ∙ ap (λ m. signed_at rows (m + k)) at in
    ap (signed_at (put_mid (row * n) (row * n + n - row * n) rows c.synthesise_line.new.line)) place
    ∙ mid_put (row * n) (row * n + n - row * n) rows c.synthesise_line.new.line (omega arith) (omega arith) x (omega arith)
    ∙ line_samples area.x0 area.x1 c.split_at.result.0.now c.split_at.result.1.now c.synthesise_line.new.line (λ i. woven_rows area rows i (area.y0 + row)) (omega arith) c.synthesise_line.ensures
    (λ i from to. ap (λ l. woven area.x0 l c.split_at.result.1.now i) (c.split_at.ensures.front ∙ ap (λ k. take k line) c.low_width.ensures)
    ∙ ap (λ l. woven area.x0 (take (columns_of (half_area area 0)) line) l i) (c.split_at.ensures.back ∙ ap (λ k. drop k line) c.low_width.ensures)
    ∙ row_woven area rows line row i from to copied) x (omega arith)

pub returns-clause-others : goal.returns-clause-others
returns-clause-others c j x other h =
    let area = c.args.area.now in
    let w : ℕ = columns_of area in
    let row : ℕ = c.args.row in
    let n : ℕ = length c.args.line.now in
    let rows = c.args.rows.now in
    let made = c.synthesise_line.new.line in
    let wide : n ≡ w = c.requires.line in
    let fits = row_inside w (rows_of area) row c.requires.row in
    let at : row * n ≡ row * w = ap (λ k. row * k) wide in
    let count : row * n + n - row * n ≡ w = omega arith in
    ap (λ m. signed_at (put_mid m (row * n + n - row * n) rows made) (j * w + x)) at
    ∙ row_kept w (row * n + n - row * n) row rows made count (omega arith) (omega arith) j x other h
