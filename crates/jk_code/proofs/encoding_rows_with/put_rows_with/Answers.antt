use Rattle.std.proofs.lemmas.Result.{err_from_is_err_and}
use Rattle.jk_code.proofs.SendingLaws.{come_none, come_ok, come_part}
use Rattle.jk_code.proofs.encoding_rows_with.put_rows_with.Goals as goal

pub returns-in_err-tiles-clause-part : goal.returns-in_err-tiles-clause-part
returns-in_err-tiles-clause-part g c =
    let same = err_from_is_err_and c.from_residual.result c.from_residual.ensures.1 in
    rw (same.1, same.2) (come_none g.W.TextSink.took g.W.TextSink.tells (record { none = g.met.W.TextSink.none; joined = g.met.W.TextSink.joined }) g.S.RowSupply.gave g.S.RowSupply.met c.args.frame.now c.args.parameters.now c.args.supply.now c.fallen_tiles_with.new.supply c.args.writer.now c.in_err-tiles.field-0.0 c.in_err-tiles.ensures.err)

pub returns-clause-ok : goal.returns-clause-ok
returns-clause-ok g c =
    come_ok g.W.TextSink.took g.W.TextSink.tells (record { none = g.met.W.TextSink.none; joined = g.met.W.TextSink.joined }) g.S.RowSupply.gave c.args.frame.now c.args.parameters.now c.args.supply.now c.fallen_tiles_with.new.supply c.args.writer.now c.put_tiles.new.writer _ c.put_tiles.result c.requires.profile
    c.in_ok-tiles.ensures.given c.put_tiles.ensures.part c.put_tiles.ensures.means

pub returns-clause-part : goal.returns-clause-part
returns-clause-part g c =
    come_part g.W.TextSink.took g.W.TextSink.tells (record { none = g.met.W.TextSink.none; joined = g.met.W.TextSink.joined }) g.S.RowSupply.gave g.S.RowSupply.met c.args.frame.now c.args.parameters.now c.args.supply.now c.fallen_tiles_with.new.supply c.args.writer.now c.put_tiles.new.writer _ c.put_tiles.result
    c.requires.profile c.in_ok-tiles.ensures.given c.put_tiles.ensures.part
