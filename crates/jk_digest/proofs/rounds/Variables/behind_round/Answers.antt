-- One round more, with the word of the schedule.
use Rattle.jk_digest.specs.Rounds.{listed}
use Rattle.jk_digest.proofs.OneRound.{behind_one}
use Rattle.jk_digest.proofs.rounds.Variables.behind_round.Goals as goal

pub returns : goal.returns
returns c b h column before = behind_one h b (listed c.args.self) c.args.t _ c.first_sum-first.result c.second_sum-second.result before
    (column c.args.t c.requires.round) c.first_sum-first.ensures c.second_sum-second.ensures
