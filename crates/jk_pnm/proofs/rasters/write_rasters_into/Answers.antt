use Rattle.std.proofs.Common.{◌∙◌, refl, sym, List, ℕ}
use Rattle.jk_pnm.specs.Pnm.{IsPnm}
use Rattle.jk_pnm.proofs.SendingLaws.{left_none, left_of, means_of, file_sent, file_is, on_ok_all}
use Rattle.jk_pnm.proofs.WrittenLaws.{written_means}
use Rattle.jk_pnm.proofs.rasters.write_rasters_into.Goals as goal

pub returns-then-not-has_file-clause-exact : goal.returns-then-not-has_file-clause-exact
returns-then-not-has_file-clause-exact g c p are =
    left_none (g.W.Write.contents c.args.writer.now) p (sym (file_is c.args.frame.now c.args.pieces.now p are) ∙ sym c.has_file.ensures ∙ c.if-not-has_file.true)

pub returns-clause-exact : goal.returns-clause-exact
returns-clause-exact g c p are =
    let is = sym (file_is c.args.frame.now c.args.pieces.now p are) ∙ sym c.has_file.ensures ∙ c.if-not-has_file.false in
    let a = g.W.Write.contents c.args.writer.now in
    let b = g.W.Write.contents c.send_file.new.writer in
    left_of a b p c.send_file.result is (file_sent a b c.args.frame.now c.args.pieces.now p c.send_file.result are is c.send_file.ensures)

pub returns-clause-means : goal.returns-clause-means
returns-clause-means g c p profile are =
    let is = sym (file_is c.args.frame.now c.args.pieces.now p are) ∙ sym c.has_file.ensures ∙ c.if-not-has_file.false in
    means_of (λ (file : List ℕ). IsPnm file (record p { x0 = 0; y0 = 0 })) p c.send_file.result (on_ok_all c.send_file.result (written_means p _ profile is refl)) is
