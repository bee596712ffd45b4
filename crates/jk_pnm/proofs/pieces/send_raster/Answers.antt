use Rattle.std.proofs.Common.{◌≡◌, ◌*◌, ◌≤◌, [], ◌∙◌, ap, refl, arith}
use Rattle.std.proofs.lemmas.Result.{err_from_is_err_and}
use Rattle.jk_math.proofs.Laws.{appends_none}
use Rattle.jk_pnm.specs.Written.{raster_text}
use Rattle.jk_pnm.proofs.SendingLaws.{raster_stopped, raster_sent}
use Rattle.jk_pnm.proofs.pieces.send_raster.Goals as goal

pub loop-from-init : goal.loop-from-init
loop-from-init g c = record {
  within = omega arith;
  written = ([], appends_none (g.W.Write.contents c.args.writer.now), refl);
}

pub returns-in_err-send_piece : goal.returns-in_err-send_piece
returns-in_err-send_piece g c =
    let image = c.args.image.now in
    let to = c.min-to.result in
    let pixels = image.width * image.height in
    let same = err_from_is_err_and c.from_residual.result c.from_residual.ensures.1 in
    let before : c.loop-from.from ≤ to = omega (arith, c.min-to.ensures, c.loop-from-test.true) in
    let within : to ≤ pixels = omega (arith, c.min-to.ensures, c.requires.pixels) in
    rw (same.1, same.2)
    (raster_stopped c.args.maxval image.planes c.loop-from.from to pixels (g.W.Write.contents c.args.writer.now) (g.W.Write.contents c.loop-from.writer) (g.W.Write.contents c.send_piece.new.writer)
    c.in_err-send_piece.field-0.0 before within c.loop-from.invariant.written c.in_err-send_piece.ensures)

pub loop-from-preserved : goal.loop-from-preserved
loop-from-preserved g c =
    let to = c.min-to.result in
    let before : c.loop-from.from ≤ to = omega (arith, c.min-to.ensures, c.loop-from-test.true) in
    record {
      within = omega (arith, c.min-to.ensures);
      written = raster_sent c.args.maxval c.args.image.now.planes c.loop-from.from to (g.W.Write.contents c.args.writer.now) (g.W.Write.contents c.loop-from.writer) (g.W.Write.contents c.send_piece.new.writer)
          before c.loop-from.invariant.written c.in_ok-send_piece.ensures;
    }

pub returns : goal.returns
returns g c =
    let image = c.args.image.now in
    let written = c.loop-from.invariant.written in
    let all : c.loop-from.from ≡ image.width * image.height = omega (arith, c.loop-from-test.false, c.loop-from.invariant.within, c.requires.pixels) in
    (written.0, written.1, written.2 ∙ ap (raster_text c.args.maxval image.planes) all)
