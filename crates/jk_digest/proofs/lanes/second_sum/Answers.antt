-- Lane by lane.
use Rattle.std.proofs.Common.{◌∙◌, ap, get_or, length}
use Rattle.sha2.specs.Sha256.{big_sigma0, add32}
use Rattle.jk_digest.proofs.RoundVectors.{long, at, long_map, at_map}
use Rattle.jk_digest.proofs.lanes.second_sum.Goals as goal

pub returns-clause-lanes : goal.returns-clause-lanes
returns-clause-lanes c = long add32 c.big_sigma0.result c.maj.result (ap length c.big_sigma0.ensures ∙ long_map big_sigma0 c.args.v.a c.requires.0) c.maj.ensures.lanes

pub returns-clause-each : goal.returns-clause-each
returns-clause-each c k low =
    let sigma = ap (λ l. get_or l k 0) c.big_sigma0.ensures ∙ at_map big_sigma0 c.args.v.a k c.requires.0 low in
    at add32 c.big_sigma0.result c.maj.result k (ap length c.big_sigma0.ensures ∙ long_map big_sigma0 c.args.v.a c.requires.0) c.maj.ensures.lanes low
    ∙ (λ i. add32 (sigma i) (c.maj.ensures.each k low i))
