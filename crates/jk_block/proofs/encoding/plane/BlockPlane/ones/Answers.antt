use Rattle.std.proofs.Common.{◌*◌, ◌/◌}
use Rattle.jk_block.specs.Meaning.{value_in}
use Rattle.jk_block.proofs.encoding.Slicing.{ones_seen}
use Rattle.jk_block.proofs.encoding.plane.BlockPlane.ones.Goals as goal

pub returns : goal.returns
returns c =
    let v = c.args.self.now in
    ones_seen v c.args.spot c.ones.result v.shallow (c.ones.ensures (v.plane / 8 * 8) (value_in v.shape v.values.now) v.sliced)
