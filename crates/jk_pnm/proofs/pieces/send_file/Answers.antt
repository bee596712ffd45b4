use Rattle.std.proofs.Common.{◌*◌, ◌++◌, ◌∙◌, refl, subst, Err, List, ℕ}
use Rattle.std.proofs.lemmas.Result.{err_from_is_err_and}
use Rattle.jk_pnm.specs.Written.{maxval_of, raster_text, file_text}
use Rattle.jk_pnm.proofs.WrittenLaws.{file_joined, written_means}
use Rattle.jk_pnm.specs.Sending.{IsSent}
use Rattle.jk_pnm.proofs.SendingLaws.{Wrote, sent_both, sent_first, sent_as, on_ok_all}
use Rattle.jk_pnm.proofs.pieces.send_file.Goals as goal

pub returns-in_err-send-clause-part : goal.returns-in_err-send-clause-part
returns-in_err-send-clause-part g c =
    let p = c.args.image.now in
    let head = c.deref.result.now in
    let raster : List ℕ = raster_text (maxval_of p.depth) p.planes (p.width * p.height) in
    let a = g.W.Write.contents c.args.writer.now in
    let b = g.W.Write.contents c.send.new.writer in
    let e = c.in_err-send.field-0.0 in
    let same = err_from_is_err_and c.from_residual-in_err-send.result c.from_residual-in_err-send.ensures.1 in
    rw (same.1, same.2)
    (sent_as a b (head ++ raster) (file_text p) (Err e) (file_joined p head (c.deref.ensures.value ∙ c.in_ok-head.ensures.value)) (sent_first a b head raster e c.in_err-send.ensures))

pub returns-clause-part : goal.returns-clause-part
returns-clause-part g c =
    let p = c.args.image.now in
    let head = c.deref.result.now in
    let raster : List ℕ = raster_text (maxval_of p.depth) p.planes (p.width * p.height) in
    let a = g.W.Write.contents c.args.writer.now in
    let b = g.W.Write.contents c.send.new.writer in
    let d = g.W.Write.contents c.send_raster.new.writer in
    sent_as a d (head ++ raster) (file_text p) c.send_raster.result (file_joined p head (c.deref.ensures.value ∙ c.in_ok-head.ensures.value))
    (sent_both a b d head raster c.send_raster.result c.in_ok-send.ensures (subst (λ (m : ℕ). Wrote b d (λ part. IsSent (raster_text m p.planes (p.width * p.height)) part c.send_raster.result)) c.pixels_and_maxval-pixels.ensures.maxval c.send_raster.ensures))

pub returns-clause-means : goal.returns-clause-means
returns-clause-means g c =
    let p = c.args.image.now in
    on_ok_all c.send_raster.result (written_means p (file_text p) c.pixels_and_maxval-pixels.ensures.profile c.requires.written refl)
