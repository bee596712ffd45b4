-- One round more, with the word of each schedule.
use Rattle.std.proofs.Common.{◌∙◌, get_or}
use Rattle.sha2.specs.Sha256.{schedule, round_constants}
use Rattle.jk_digest.specs.Lanes.{lane}
use Rattle.jk_digest.proofs.OneRound.{one_more}
use Rattle.jk_digest.proofs.RoundVectors.{round_fours, round_lane}
use Rattle.jk_digest.proofs.lanes.behind_round.Goals as goal

pub returns-clause-fours : goal.returns-clause-fours
returns-clause-fours c = round_fours c.args.v c.first_sum-first.result c.second_sum-second.result c.requires.fours c.first_sum-first.ensures.lanes c.second_sum-second.ensures.lanes

pub returns-clause-each : goal.returns-clause-each
returns-clause-each c b h words before k low =
    round_lane c.args.v c.first_sum-first.result c.second_sum-second.result c.requires.fours c.first_sum-first.ensures.lanes c.second_sum-second.ensures.lanes
    k (get_or round_constants c.args.t 0) (get_or c.load.result k 0) low (c.first_sum-first.ensures.each k low) (c.second_sum-second.ensures.each k low)
    ∙ one_more (lane c.args.v k) (h k) (schedule (b k) 48) c.args.t _ (before k low) (c.load.ensures.each k low ∙ words c.args.t k c.requires.round low)
