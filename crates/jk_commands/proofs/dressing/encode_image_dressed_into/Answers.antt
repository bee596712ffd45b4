use Rattle.std.proofs.lemmas.Result.{err_from_is_err_and}
use Rattle.jk_commands.specs.Dressing.{picture_encoded_with}
use Rattle.jk_commands.proofs.LeftLaws.{none_sent}
use Rattle.jk_commands.proofs.dressing.encode_image_dressed_into.Goals as goal

pub returns-in_err-file-clause-part : goal.returns-in_err-file-clause-part
returns-in_err-file-clause-part g c =
    let same = err_from_is_err_and c.from_residual.result c.from_residual.ensures.1 in
    rw (same.1, same.2)
    (none_sent (g.W.Write.contents c.args.writer.now) (picture_encoded_with c.args.extras.now c.args.image c.args.plan) c.in_err-file.field-0.0 c.in_err-file.ensures.exact)
