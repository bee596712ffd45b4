use Rattle.std.proofs.Common.{◌+◌, inl, inr, rules}
use Rattle.jk_code.specs.MeaningReading.{meaning_at}
use Rattle.jk_commands.proofs.LeftLaws.{on_ok}
use Rattle.jk_commands.proofs.AheadLaws.{rows_end, if_err}
use Rattle.jk_commands.proofs.RasterLaws.{all_behind, same_writer}
use Rattle.jk_commands.proofs.decoding_rows.write_rows.Goals as goal

pub returns-clause-raster : goal.returns-clause-raster
returns-clause-raster g c =
    let contents = g.W.Write.contents in
    let to = c.decode.new.rows in
    on_ok c.decode.result (λ t.
    let p = t.0 in
    let taken = t.3 in
    let same = same_writer contents p p.y0 (p.y0 + p.height) _ to taken in
    (p, t.1, t.2, λ is. let behind = all_behind contents p _ to is taken in search rules)) c.decode.ensures.taken

pub returns-clause-err : goal.returns-clause-err
returns-clause-err g c =
    let contents = g.W.Write.contents in
    let to = c.decode.new.rows in
    if_err c.decode.result (λ e why. elim why [
      | inl refuses ↦ inl refuses
      | inr s ↦
          let same = s.1 in
          inr (s.0, s.2, s.3, λ is. let begun = s.4 is in (begun.0, (let wrote = begun.1 in search rules), begun.2))
    ]) (rows_end contents (meaning_at c.args.bytes.now c.args.reduce) _ to c.decode.result c.decode.ensures.exact)
