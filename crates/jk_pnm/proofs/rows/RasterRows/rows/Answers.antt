use Rattle.std.proofs.Common.{◌-◌, ◌≤◌, sym, subst, arith}
use Rattle.jk_math.specs.Answer.{Answers}
use Rattle.jk_math.specs.Steps.{answers_same}
use Rattle.jk_pnm.specs.RasterRows.{Drawing, rows_told}
use Rattle.jk_pnm.proofs.RowLaws.{rows_inside, rows_whole, rows_read, rows_are, rows_refused, bytes_of_rows}
use Rattle.jk_pnm.specs.Heads.{with_rows}
use Rattle.jk_pnm.specs.Reading.{picture_at}
use Rattle.jk_pnm.proofs.rows.RasterRows.rows.Goals as goal

pub slice_bounds-picture-end : goal.slice_bounds-picture-end
slice_bounds-picture-end c =
    let d : Drawing = record { header = c.self.inside.header; raster = c.self.inside.raster.now } in
    let high : c.args.z ≤ d.header.height = subst (λ (x : Drawing). c.args.z ≤ x.header.height) (sym c.self.view_is) c.requires.inside in
    let order = c.requires.order in
    let fits = rows_inside d c.row_size-row.result c.args.y c.args.z c.row_size-row.ensures (omega (arith, order)) high c.self.invariant.whole in
    omega (arith, fits)

pub picture-requires-clause-whole : goal.picture-requires-clause-whole
picture-requires-clause-whole c =
    let d : Drawing = record { header = c.self.inside.header; raster = c.self.inside.raster.now } in
    let high : c.args.z ≤ d.header.height = subst (λ (x : Drawing). c.args.z ≤ x.header.height) (sym c.self.view_is) c.requires.inside in
    let order = c.requires.order in
    rows_whole d c.row_size-row.result c.args.y c.args.z c.row_size-row.ensures (omega (arith, order)) high c.self.invariant.whole

pub returns-clause-exact : goal.returns-clause-exact
returns-clause-exact c =
    let d : Drawing = record { header = c.self.inside.header; raster = c.self.inside.raster.now } in
    let y = c.args.y in
    let z = c.args.z in
    let high : z ≤ d.header.height = subst (λ (x : Drawing). z ≤ x.header.height) (sym c.self.view_is) c.requires.inside in
    let order = c.requires.order in
    let same = rows_read d c.row_size-row.result y z c.row_size-row.ensures (omega (arith, order)) high in
    subst (λ (x : Drawing). Answers (λ i. i) c.picture.result (rows_told x y z)) c.self.view_is
    (answers_same (λ i. i) c.picture.result (picture_at (with_rows d.header (z - y)) (bytes_of_rows c.row_size-row.result y z d.raster)) (rows_told d y z) c.picture.ensures same)

pub returns-clause-rows : goal.returns-clause-rows
returns-clause-rows c = rows_are (λ i. i) c.picture.result c.args.self.now c.args.y c.args.z (returns-clause-exact c)

pub returns-clause-refused : goal.returns-clause-refused
returns-clause-refused c = rows_refused (λ i. i) c.picture.result c.args.self.now c.args.y c.args.z (returns-clause-exact c)
