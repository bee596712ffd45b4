use Rattle.std.proofs.Common.{Err, sym}
use Rattle.std.proofs.lemmas.Result.{err_from_is_err_and}
use Rattle.jk_pnm.proofs.SendingLaws.{pieces_stopped, sent_as}
use Rattle.jk_pnm.proofs.rasters.send_pieces.Goals as goal

pub returns-in_err-send : goal.returns-in_err-send
returns-in_err-send g c =
    let same = err_from_is_err_and c.from_residual.result c.from_residual.ensures.1 in
    let a = g.W.Write.contents c.args.writer.now in
    let b = g.W.Write.contents c.loop-piece.writer in
    let d = g.W.Write.contents c.send.new.writer in
    rw (same.1, same.2)
    (pieces_stopped c.loop-piece.piece-index c.args.pieces.now c.piece-item.result a b d c.in_err-send.field-0.0 c.loop-piece-test.true (sym c.piece-item.is) c.loop-piece.invariant (sent_as b d c.deref.result.now c.piece-item.result.items (Err c.in_err-send.field-0.0) c.deref.ensures.value c.in_err-send.ensures))
