use Rattle.std.proofs.Common.{◌*◌, arith}
use Rattle.jk_tile.proofs.Showing.{followed_numbers}
use Rattle.jk_tile.proofs.decoding.jobs.add_resolution_blocks.Goals as goal

pub follow-requires-clause-precinct : goal.follow-requires-clause-precinct
follow-requires-clause-precinct c = let long = c.in_ok-chains.ensures.chains.first in omega (arith, long, c.loop-n-test.true)

pub follow-requires-clause-chain : goal.follow-requires-clause-chain
follow-requires-clause-chain c = let own = c.in_ok-chains.ensures.chains.each c.loop-n.n c.loop-n-test.true in (own.0, own.1)

pub add_precinct_blocks-requires-clause-numbers : goal.add_precinct_blocks-requires-clause-numbers
add_precinct_blocks-requires-clause-numbers c =
    followed_numbers c.args.source.now c.args.r c.loop-n.n (c.precinct_count-across.result.0 * c.precinct_count-across.result.1) c.tile_packets.result.now c.number.result c.in_ok-chains.chains c.follow.new.numbers.items c.deref.result.now
    c.tile_packets.ensures c.number.ensures c.in_ok-chains.ensures.chains c.loop-n-test.true c.in_ok-follow.ensures.numbers c.deref.ensures.value
