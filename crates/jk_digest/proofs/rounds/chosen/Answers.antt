-- Bit by bit.
use Rattle.std.proofs.Common.{arith}
use Rattle.jk_digest.proofs.Choices.{choice}
use Rattle.jk_digest.proofs.rounds.chosen.Goals as goal

pub returns : goal.returns
returns c = choice c.args.mask c.args.set c.args.unset (omega arith) (omega arith) (omega arith)
