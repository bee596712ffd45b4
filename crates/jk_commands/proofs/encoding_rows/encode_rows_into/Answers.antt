use Rattle.std.proofs.Common.{◌≡◌, refl, sym, ap, subst, ◌∙◌}
use Rattle.std.proofs.lemmas.Result.{err_from_is_err_and}
use Rattle.jk_math.specs.Picture.{Picture}
use Rattle.jk_math.specs.Steps.{ok_is, refuses_due}
use Rattle.jk_params.specs.declared.picture_frame.PictureFrame.{PictureFrame}
use Rattle.jk_pnm.specs.Reading.{pnm_at}
use Rattle.jk_pnm.specs.RasterRows.{drawn}
use Rattle.jk_code.specs.Meaning.{Means}
use Rattle.jk_options.specs.Plans.{at_place, placed_on}
use Rattle.jk_commands.proofs.LeftLaws.{left_unread, left_unplaced, left_whole, on_ok}
use Rattle.jk_commands.proofs.RowLeftLaws.{left_unjudged, left_of_rows, whole_means}
use Rattle.jk_commands.proofs.encoding_rows.encode_rows_into.Goals as goal

pub returns-in_err-raster-clause-part : goal.returns-in_err-raster-clause-part
returns-in_err-raster-clause-part g c =
    let same = err_from_is_err_and c.from_residual.result c.from_residual.ensures.1 in
    let e = c.in_err-raster.field-0.0 in
    rw (same.1, same.2) (left_unread (g.W.Write.contents c.args.writer.now) c.args.bytes.now c.args.plan e (refuses_due e (pnm_at c.args.bytes.now) c.in_err-raster.ensures.refused))

pub returns-in_err-judge-in-Err-clause-part : goal.returns-in_err-judge-in-Err-clause-part
returns-in_err-judge-in-Err-clause-part g c =
    let same = err_from_is_err_and c.from_residual-in_err-judge-in-Err.result c.from_residual-in_err-judge-in-Err.ensures.1 in
    rw (same.1, same.2)
    (left_unjudged (g.W.Write.contents c.args.writer.now) c.args.bytes.now c.args.plan c.in_ok-raster.raster c.in_err-judge-in-Err.field-0.0 c.in_ok-raster.ensures.read c.in_err-judge-in-Err.ensures.err)

pub returns-in_ok-judge-in-Err-clause-part : goal.returns-in_ok-judge-in-Err-clause-part
returns-in_ok-judge-in-Err-clause-part g c =
    let d = c.in_ok-raster.raster in
    let read = c.in_ok-raster.ensures.read ∙ c.frame_of_file.ensures.picture_told c.in_ok-judge-in-Err.ensures.ok in
    left_unplaced (g.W.Write.contents c.args.writer.now) c.args.bytes.now c.args.plan (drawn d) c.in-Err.fault read (c.in-Err.ensures.exact (drawn d) (sym c.frame_of_file.ensures.value))

pub returns-in-Ok-clause-part : goal.returns-in-Ok-clause-part
returns-in-Ok-clause-part g c =
    let d = c.in_ok-raster.raster in
    let placed = c.in-Ok.placed in
    left_of_rows (g.W.Write.contents c.args.writer.now) (g.W.Write.contents c.encode_placed.new.writer) c.args.bytes.now c.args.plan d placed.frame.x0 placed.frame.y0 (placed_on (drawn d) placed) c.encode_placed.result
    c.in_ok-raster.ensures.read c.frame_of_file.ensures.picture_told (c.in-Ok.ensures.exact (drawn d) (sym c.frame_of_file.ensures.value)) refl c.encode_placed.ensures.part

pub returns-in-Ok-clause-ok : goal.returns-in-Ok-clause-ok
returns-in-Ok-clause-ok g c =
    left_whole (g.W.Write.contents c.args.writer.now) (g.W.Write.contents c.encode_placed.new.writer) c.args.bytes.now c.args.plan c.encode_placed.result (returns-in-Ok-clause-part g c)

pub returns-in-Ok-clause-means : goal.returns-in-Ok-clause-means
returns-in-Ok-clause-means g c p is =
    let d = c.in_ok-raster.raster in
    let plan = c.args.plan in
    let placed = c.in-Ok.placed in
    let a = g.W.Write.contents c.args.writer.now in
    let b = g.W.Write.contents c.encode_placed.new.writer in
    let same : p ≡ drawn d = ok_is p (drawn d) (c.in_ok-raster.ensures.only p is) in
    let x0 : placed.frame.x0 ≡ plan.x0 = ap (λ (f : PictureFrame). f.x0) c.in-Ok.ensures.place in
    let y0 : placed.frame.y0 ≡ plan.y0 = ap (λ (f : PictureFrame). f.y0) c.in-Ok.ensures.place in
    let there : at_place (drawn d) placed.frame.x0 placed.frame.y0 ≡ at_place p plan.x0 plan.y0 =
    ap (λ x. at_place (drawn d) x placed.frame.y0) x0 ∙ ap (λ y. at_place (drawn d) plan.x0 y) y0 ∙ ap (λ (q : Picture). at_place q plan.x0 plan.y0) (sym same) in
    let placing = c.in-Ok.ensures.exact (drawn d) (sym c.frame_of_file.ensures.value) in
    on_ok c.encode_placed.result
    (λ h file e. subst (λ (q : Picture). Means file 0 q) there
    (whole_means a b c.args.bytes.now plan d placed.frame.x0 placed.frame.y0 (placed_on (drawn d) placed) (c.in_ok-raster.ensures.read ∙ c.frame_of_file.ensures.picture_told h.0) placing refl (h.1, h.2, h.3, h.4) file e))
    c.encode_placed.ensures.ok

pub returns-in-Ok-clause-found : goal.returns-in-Ok-clause-found
returns-in-Ok-clause-found g c = on_ok c.encode_placed.result (λ h. (drawn c.in_ok-raster.raster, c.in_ok-raster.ensures.found h.0)) c.encode_placed.ensures.ok
