use Rattle.std.proofs.Common.{◌-◌, ◌++◌, ◌∙◌, ap, List, ℕ}
use Rattle.std.proofs.lemmas.Result.{err_from_is_err_and}
use Rattle.jk_pnm.specs.Written.{raster_part}
use Rattle.jk_pnm.proofs.SendingLaws.{sent_none, sent_as}
use Rattle.jk_pnm.proofs.pieces.send_piece.Goals as goal

pub returns-in_err-piece : goal.returns-in_err-piece
returns-in_err-piece g c =
    let same = err_from_is_err_and c.from_residual.result c.from_residual.ensures.1 in
    rw (same.1, same.2)
    (sent_none (g.W.Write.contents c.args.writer.now) (raster_part c.args.maxval c.args.image.now.planes c.args.from (c.args.to - c.args.from)) c.in_err-piece.field-0.0 c.in_err-piece.ensures.err)

pub returns : goal.returns
returns g c =
    let part = raster_part c.args.maxval c.args.image.now.planes c.args.from (c.args.to - c.args.from) in
    sent_as (g.W.Write.contents c.args.writer.now) (g.W.Write.contents c.send.new.writer) c.deref.result.now part c.send.result
    (c.deref.ensures.value ∙ c.in_ok-piece.ensures.ok ∙ ap (λ (ys : List ℕ). ys ++ part) c.new.ensures.items) c.send.ensures
