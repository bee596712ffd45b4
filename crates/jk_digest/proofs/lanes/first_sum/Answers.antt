-- Lane by lane.
use Rattle.std.proofs.Common.{◌∙◌, ap, get_or, length}
use Rattle.sha2.specs.Sha256.{big_sigma1, add32}
use Rattle.jk_digest.proofs.RoundVectors.{long_map, at_map, first_long, first_at}
use Rattle.jk_digest.proofs.lanes.first_sum.Goals as goal

pub returns-clause-lanes : goal.returns-clause-lanes
returns-clause-lanes c = first_long c.args.v.h c.big_sigma1.result c.ch.result c.args.words c.args.constant c.requires.fours.7
    (ap length c.big_sigma1.ensures ∙ long_map big_sigma1 c.args.v.e c.requires.fours.4) c.ch.ensures.lanes c.requires.words

pub returns-clause-each : goal.returns-clause-each
returns-clause-each c k low =
    let sigma = ap (λ l. get_or l k 0) c.big_sigma1.ensures ∙ at_map big_sigma1 c.args.v.e k c.requires.fours.4 low in
    first_at c.args.v.h c.big_sigma1.result c.ch.result c.args.words c.args.constant c.requires.fours.7
    (ap length c.big_sigma1.ensures ∙ long_map big_sigma1 c.args.v.e c.requires.fours.4) c.ch.ensures.lanes c.requires.words k low
    ∙ (λ i. add32 (add32 (add32 (add32 (get_or c.args.v.h k 0) (sigma i)) (c.ch.ensures.each k low i)) c.args.constant) (get_or c.args.words k 0))
