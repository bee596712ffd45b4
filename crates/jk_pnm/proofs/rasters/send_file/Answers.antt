use Rattle.std.proofs.Common.{eqb}
use Rattle.jk_pnm.specs.Rasters.{pieces_text}
use Rattle.jk_pnm.specs.Written.{header_text, maxval_of}
use Rattle.jk_pnm.proofs.SendingLaws.{sent_both}
use Rattle.jk_pnm.proofs.rasters.send_file.Goals as goal

pub returns : goal.returns
returns g c =
    let f = c.args.frame.now in
    sent_both (g.W.Write.contents c.args.writer.now) (g.W.Write.contents c.write_head_into.new.writer) (g.W.Write.contents c.send_pieces.new.writer)
    (header_text (eqb f.components 3) f.width f.height (maxval_of f.depth)) (pieces_text c.args.pieces.now) c.send_pieces.result c.in_ok-write_head_into.ensures.exact c.send_pieces.ensures
