use Rattle.std.proofs.lemmas.Result.{err_from_is_err_and}
use Rattle.jk_code.proofs.SendingLaws.{come_none, come_refused}
use Rattle.jk_code.proofs.encoding_rows_with.encode_rows_with_to.Goals as goal

pub returns-in_err-drop_rows-clause-part : goal.returns-in_err-drop_rows-clause-part
returns-in_err-drop_rows-clause-part g c =
    let same = err_from_is_err_and c.from_residual.result c.from_residual.ensures.1 in
    rw (same.1, same.2) (come_none g.W.TextSink.took g.W.TextSink.tells (record { none = g.met.W.TextSink.none; joined = g.met.W.TextSink.joined }) g.S.RowSupply.gave g.S.RowSupply.met c.args.frame.now c.args.parameters.now c.args.supply.now c.drop_rows.new.supply c.args.writer.now c.in_err-drop_rows.field-0.0 c.in_err-drop_rows.ensures.err)

pub returns-in-Err-clause-part : goal.returns-in-Err-clause-part
returns-in-Err-clause-part g c =
    come_refused g.W.TextSink.took g.W.TextSink.tells (record { none = g.met.W.TextSink.none; joined = g.met.W.TextSink.joined }) g.S.RowSupply.gave g.S.RowSupply.met c.args.frame.now c.args.parameters.now c.args.supply.now c.drop_rows.new.supply c.args.writer.now c.check_frame.result c.in-Err.fault c.check_frame.ensures.exact
    c.in-Err.is c.in_ok-drop_rows.ensures.all

pub returns-clause-part : goal.returns-clause-part
returns-clause-part g c = c.put_rows_with.ensures.part
