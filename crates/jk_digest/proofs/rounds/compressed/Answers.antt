-- All rounds are eight times eight.
use Rattle.std.proofs.Common.{◌∙◌, arith}
use Rattle.sha2.specs.Sha256.{schedule}
use Rattle.jk_digest.specs.Rounds.{listed}
use Rattle.jk_digest.proofs.OneRound.{before_all, behind_all}
use Rattle.jk_digest.proofs.rounds.compressed.Goals as goal

pub loop-eight-init : goal.loop-eight-init
loop-eight-init c b column = c.of-variables.ensures ∙ before_all c.args.hash.now (schedule b 48)

pub returns : goal.returns
returns c b column = c.added_to.ensures
    ∙ behind_all c.args.hash.now b (listed c.loop-eight.variables) c.loop-eight.eight (omega arith) (omega arith) (c.loop-eight.invariant b column)
