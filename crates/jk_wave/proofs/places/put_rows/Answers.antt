use Rattle.std.proofs.Common.{ℕ, ◌*◌, ◌∙◌, ap, arith}
use Rattle.jk_math.specs.Raster.{columns_of}
use Rattle.jk_math.specs.Signed.{signed_at}
use Rattle.jk_wave.proofs.PutRows.{row_more, lent_row, all_others}
use Rattle.jk_wave.proofs.places.put_rows.Goals as goal

pub loop-row-preserved : goal.loop-row-preserved
loop-row-preserved c =
    let b = c.args.place.now in
    let row : ℕ = c.loop-row.row in
    let w : ℕ = columns_of b.area in
    let fits = c.requires.fits row (omega arith) in
    row_more b row _ _ (row * w) c.args.band.now c.args.rows.now c.loop-row.rows c.copy_from_slice.new.self c.requires.apart
    (omega arith) (omega arith) (omega arith) (omega arith) (omega arith)
    (λ x lt. ap (λ l. signed_at l x) c.copy_from_slice.ensures.after ∙ lent_row c.args.band.now (row * w) _ x (omega arith)) c.loop-row.invariant

pub returns-after-loop-row-clause-others : goal.returns-after-loop-row-clause-others
returns-after-loop-row-clause-others c = all_others c.args.place.now c.loop-row.row c.args.band.now c.args.rows.now c.loop-row.rows (omega arith) c.loop-row.invariant
