-- All rounds are eight times eight.
use Rattle.std.proofs.Common.{◌≡◌, ◌+◌, ◌*◌, ◌∙◌, ap, arith}
use Rattle.sha2.specs.Sha256.{rounds, schedule}
use Rattle.jk_digest.specs.Lanes.{lane}
use Rattle.jk_digest.proofs.OneRound.{before_all, behind_all}
use Rattle.jk_digest.proofs.lanes.compressed.Goals as goal

pub loop-eight-init : goal.loop-eight-init
loop-eight-init c = (c.requires, λ b words k low. before_all (lane c.args.hash k) (schedule (b k) 48))

pub behind_eight-v-requires-clause-fours : goal.behind_eight-v-requires-clause-fours
behind_eight-v-requires-clause-fours c = c.loop-eight.invariant.0

pub loop-eight-preserved : goal.loop-eight-preserved
loop-eight-preserved c = (
  c.behind_eight-v.ensures.fours,
  λ b words k low.
      let more : 8 * c.loop-eight.eight + 8 ≡ 8 * (c.loop-eight.eight + 1) = omega arith in
      c.behind_eight-v.ensures.each b (lane c.args.hash) words (c.loop-eight.invariant.1 b words) k low ∙ ap (λ n. rounds (lane c.args.hash k) (schedule (b k) 48) n) more,
)

pub returns-clause-each : goal.returns-clause-each
returns-clause-each c b words k low =
    c.added.ensures.each k low ∙ behind_all (lane c.args.hash k) (b k) (lane c.loop-eight.v k) c.loop-eight.eight (omega arith) (omega arith) (c.loop-eight.invariant.1 b words k low)
