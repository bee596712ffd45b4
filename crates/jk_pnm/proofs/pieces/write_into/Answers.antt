use Rattle.std.proofs.Common.{◌∙◌, sym, List, ℕ}
use Rattle.jk_pnm.specs.Pnm.{IsPnm}
use Rattle.jk_pnm.proofs.SendingLaws.{left_none, left_of, means_of}
use Rattle.jk_pnm.proofs.pieces.write_into.Goals as goal

pub returns-then-not-is_written-clause-exact : goal.returns-then-not-is_written-clause-exact
returns-then-not-is_written-clause-exact g c =
    left_none (g.W.Write.contents c.args.writer.now) c.args.image.now (sym c.is_written.ensures ∙ c.if-not-is_written.true)

pub returns-clause-exact : goal.returns-clause-exact
returns-clause-exact g c =
    left_of (g.W.Write.contents c.args.writer.now) (g.W.Write.contents c.send_file.new.writer) c.args.image.now c.send_file.result (sym c.is_written.ensures ∙ c.if-not-is_written.false) c.send_file.ensures.part

pub returns-clause-means : goal.returns-clause-means
returns-clause-means g c =
    let p = c.args.image.now in
    means_of (λ (file : List ℕ). IsPnm file (record p { x0 = 0; y0 = 0 })) p c.send_file.result c.send_file.ensures.means (sym c.is_written.ensures ∙ c.if-not-is_written.false)
