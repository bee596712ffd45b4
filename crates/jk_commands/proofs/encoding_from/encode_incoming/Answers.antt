use Rattle.std.proofs.Common.{sym, ap, ◌∙◌}
use Rattle.std.proofs.lemmas.Result.{err_from_is_err_and}
use Rattle.jk_params.specs.declared.picture_frame.PictureFrame.{PictureFrame}
use Rattle.jk_pnm.specs.RasterRows.{drawn}
use Rattle.jk_commands.specs.RowStreaming.{with_raster}
use Rattle.jk_commands.proofs.FileRowLaws.{drawn_frame}
use Rattle.jk_commands.proofs.StreamFileLaws.{HasHead, headless_left, judged_left, unplaced_left, placed_left, placed_whole}
use Rattle.jk_commands.proofs.encoding_from.encode_incoming.Goals as goal

pub returns-in_err-head-clause-part : goal.returns-in_err-head-clause-part
returns-in_err-head-clause-part g c =
    let same = err_from_is_err_and c.from_residual.result c.from_residual.ensures.1 in
    rw (same.1, same.2)
    (headless_left g.S.Read.remaining (g.W.Write.contents c.args.writer.now) c.args.plan c.args.incoming.now c.head_of.new.incoming c.in_err-head.field-0.0 c.in_err-head.ensures.fault c.in_err-head.ensures.bad)

pub returns-in_err-judge-in-Err-clause-part : goal.returns-in_err-judge-in-Err-clause-part
returns-in_err-judge-in-Err-clause-part g c =
    let found = c.in_ok-head.ensures.found in
    let h = c.in_ok-head.head in
    let k : HasHead g.S.Read.remaining c.args.incoming.now c.head_of.new.incoming h = record { front = found.0; took = found.1; head = found.2 } in
    let same = err_from_is_err_and c.from_residual-in_err-judge-in-Err.result c.from_residual-in_err-judge-in-Err.ensures.1 in
    rw (same.1, same.2)
    (judged_left g.S.Read.remaining (g.W.Write.contents c.args.writer.now) c.args.plan c.args.incoming.now c.head_of.new.incoming c.judge.new.incoming h c.in_err-judge-in-Err.field-0.0 k c.in_err-judge-in-Err.ensures.err)

pub returns-in_ok-judge-in-Err-clause-part : goal.returns-in_ok-judge-in-Err-clause-part
returns-in_ok-judge-in-Err-clause-part g c =
    let found = c.in_ok-head.ensures.found in
    let h = c.in_ok-head.head in
    let k : HasHead g.S.Read.remaining c.args.incoming.now c.head_of.new.incoming h = record { front = found.0; took = found.1; head = found.2 } in
    let whole = c.in_ok-judge-in-Err.ensures.ok in
    let d = with_raster h whole.0 in
    unplaced_left g.S.Read.remaining (g.W.Write.contents c.args.writer.now) c.args.plan c.args.incoming.now c.head_of.new.incoming c.judge.new.incoming h c.in-Err.fault whole.0 k whole.1
    (c.in-Err.ensures.exact (drawn d) (drawn_frame d ∙ sym c.frame_of_head.ensures.value))

pub returns-in-Ok-clause-part : goal.returns-in-Ok-clause-part
returns-in-Ok-clause-part g c =
    let found = c.in_ok-head.ensures.found in
    let h = c.in_ok-head.head in
    let k : HasHead g.S.Read.remaining c.args.incoming.now c.head_of.new.incoming h = record { front = found.0; took = found.1; head = found.2 } in
    placed_left g.S.Read.remaining (g.W.Write.contents c.args.writer.now) (g.W.Write.contents c.encode_placed.new.writer) c.args.plan c.args.incoming.now c.head_of.new.incoming c.encode_placed.new.incoming h c.in-Ok.placed
    c.encode_placed.result k (λ bytes. c.in-Ok.ensures.exact (drawn (with_raster h bytes)) (drawn_frame (with_raster h bytes) ∙ sym c.frame_of_head.ensures.value)) c.encode_placed.ensures.part

pub returns-in-Ok-clause-ok : goal.returns-in-Ok-clause-ok
returns-in-Ok-clause-ok g c =
    let found = c.in_ok-head.ensures.found in
    let h = c.in_ok-head.head in
    let k : HasHead g.S.Read.remaining c.args.incoming.now c.head_of.new.incoming h = record { front = found.0; took = found.1; head = found.2 } in
    placed_whole g.S.Read.remaining (g.W.Write.contents c.args.writer.now) (g.W.Write.contents c.encode_placed.new.writer) c.args.plan c.args.incoming.now c.head_of.new.incoming c.encode_placed.new.incoming h c.in-Ok.placed
    c.encode_placed.result k (λ bytes. c.in-Ok.ensures.exact (drawn (with_raster h bytes)) (drawn_frame (with_raster h bytes) ∙ sym c.frame_of_head.ensures.value))
    (ap (λ (f : PictureFrame). f.x0) c.in-Ok.ensures.place) (ap (λ (f : PictureFrame). f.y0) c.in-Ok.ensures.place) c.encode_placed.ensures.ok
