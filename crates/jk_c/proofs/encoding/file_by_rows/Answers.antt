use Rattle.std.proofs.Common.{refl}
use Rattle.std.proofs.lemmas.Result.{err_from_is_err_and}
use Rattle.jk_c.proofs.Handing.{whole_file, left_file}
use Rattle.jk_c.proofs.encoding.file_by_rows.Goals as goal

pub returns-in_err-encode_rows_to : goal.returns-in_err-encode_rows_to
returns-in_err-encode_rows_to g c = λ k are known.
    let same = err_from_is_err_and c.from_residual.result c.from_residual.ensures.1 in
    let part = c.in_err-encode_rows_to.ensures.part in
    rw (same.1, same.2) (left_file g.T.Sample.value _ c.encode_rows_to.new.supply k c.args.parameters.now part.0 c.in_err-encode_rows_to.field-0.0 refl are known part.2)

pub returns : goal.returns
returns g c = λ k are known.
    whole_file g.T.Sample.value _ c.encode_rows_to.new.supply k c.args.parameters.now c.new-file.result.items c.encode_rows_to.new.writer refl are known c.new-file.ensures.items c.in_ok-encode_rows_to.ensures.ok
