use Rattle.std.proofs.Common.{◌*◌, refl, sym, ap, ◌∙◌}
use Rattle.jk_pnm.specs.declared.header.Header.{Header}
use Rattle.jk_pnm.specs.Heads.{row_bytes, with_rows}
use Rattle.jk_pnm.proofs.RowLaws.{size_by_rows}
use Rattle.jk_pnm.proofs.heads.RasterHead.rows.Goals as goal

pub picture-requires-clause-whole : goal.picture-requires-clause-whole
picture-requires-clause-whole c =
    let h = c.self.inside.header in
    let count = c.args.count in
    c.requires.whole ∙ ap (λ (k : Header). count * row_bytes k) (sym c.self.view_is) ∙ sym (size_by_rows (with_rows h count) (row_bytes h) refl)
