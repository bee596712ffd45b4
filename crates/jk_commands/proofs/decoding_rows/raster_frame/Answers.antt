use Rattle.std.proofs.Common.{arith}
use Rattle.std.proofs.lemmas.Result.{err_from_is_err_and}
use Rattle.jk_code.proofs.Laws.{frame_refused, frame_depth}
use Rattle.jk_commands.proofs.FrameLaws.{frame_is}
use Rattle.jk_commands.proofs.decoding_rows.raster_frame.Goals as goal

pub returns-in_err-told-clause-err : goal.returns-in_err-told-clause-err
returns-in_err-told-clause-err c =
    let same = err_from_is_err_and c.from_residual.result c.from_residual.ensures.1 in
    rw (same.1, same.2) (frame_refused c.args.bytes.now c.args.reduce c.in_err-told.field-0.0 c.in_err-told.ensures.exact)

pub returns-clause-depth : goal.returns-clause-depth
returns-clause-depth c = frame_depth c.args.bytes.now c.args.reduce c.in_ok-told.told (λ i. omega (arith, c.type_inv.bytes i)) c.in_ok-told.ensures.exact

pub returns-clause-frame : goal.returns-clause-frame
returns-clause-frame c p means = frame_is c.args.bytes.now c.args.reduce c.in_ok-told.told p c.in_ok-told.ensures.exact means
