-- Bit by bit.
use Rattle.std.proofs.Common.{arith}
use Rattle.jk_digest.proofs.Rotations.{rotations_are}
use Rattle.jk_digest.proofs.rounds.rotations.Goals as goal

pub returns : goal.returns
returns c = rotations_are c.args.x c.args.first c.args.second c.args.third c.rotate_right.result c.rotate_right-2.result c.rotate_right-3.result (omega arith)
    c.requires.first c.requires.second c.requires.third c.requires.within c.rotate_right.ensures c.rotate_right-2.ensures c.rotate_right-3.ensures
