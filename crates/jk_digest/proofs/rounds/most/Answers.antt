-- Bit by bit.
use Rattle.std.proofs.Common.{◌∙◌, arith}
use Rattle.jk_digest.proofs.Choices.{majority_by_choice}
use Rattle.jk_digest.proofs.rounds.most.Goals as goal

pub returns : goal.returns
returns c = c.chosen.ensures ∙ majority_by_choice c.args.x c.args.y c.args.z (omega arith) (omega arith) (omega arith)
