use Rattle.std.proofs.Common.{map}
use Rattle.jk_c.specs.Answers.{room}
use Rattle.jk_c.specs.Frames.{framed}
use Rattle.jk_c.specs.Pictured.{pictured}
use Rattle.jk_c.proofs.Handing.{handed_out}
use Rattle.jk_c.proofs.encoding.encode_pixels.Goals as goal

pub returns : goal.returns
returns g c =
    handed_out (pictured (framed c.args.frame.now g.T.Sample.signed) (map g.T.Sample.value c.args.pixels.now)) c.args.coding.now c.file_of.result (room c.args.out.now c.args.made.now)
    (room c.hand_out.new.out c.hand_out.new.made) c.hand_out.result c.file_of.ensures c.hand_out.ensures
