use Rattle.std.proofs.Common.{ℕ, ◌-◌, ◌*◌, refl, sym, ap, ◌∙◌, take, drop}
use Rattle.jk_pnm.specs.Heads.{row_bytes, with_rows}
use Rattle.jk_pnm.specs.Reading.{picture_at}
use Rattle.jk_pnm.proofs.RowLaws.{rows_below_end, rows_read, stripe_is, stripe_refused}
use Rattle.jk_pnm.proofs.theorems.rows_have_their_bytes.Goals as goal

pub returns-clause-bytes : goal.returns-clause-bytes
returns-clause-bytes c = λ d y z order inside.
    let row = row_bytes d.header in
    let len = (rows_below_end row y z d.header.height order inside).2 in
    ap (λ (n : ℕ). picture_at (with_rows d.header (z - y)) (take n (drop (y * row) d.raster))) (sym len)
    ∙ rows_read d row y z refl order inside

pub returns-clause-rows : goal.returns-clause-rows
returns-clause-rows c = λ d y z p is. stripe_is d y z p is

pub returns-clause-refused : goal.returns-clause-refused
returns-clause-refused c = λ d y z e is. stripe_refused d y z e is
