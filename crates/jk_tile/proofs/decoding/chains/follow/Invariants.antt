use Rattle.std.proofs.Common.{get_or}
use Rattle.jk_tile.proofs.decoding.Chaining.{IsFollowing, to_go}
use Rattle.jk_tile.proofs.decoding.chains.follow.Given as goal

abbrev pub invariant-loop-at : goal.invariant-loop-at
invariant-loop-at l = IsFollowing l.chains.next.items (get_or l.chains.first.items l.precinct 0) l.numbers.items l.at

abbrev pub decreases-loop-at : goal.decreases-loop-at
decreases-loop-at l = to_go l.chains.next.items l.at
