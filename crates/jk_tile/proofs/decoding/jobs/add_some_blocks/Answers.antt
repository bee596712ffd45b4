use Rattle.std.proofs.Common.{◌<◌, ◌≤◌, ◌^◌, length, map, sym, subst, arith}
use Rattle.std.specs.List.{AllByRecursion}
use Rattle.jk_walk.specs.WalkReading.{place_end}
use Rattle.jk_tile.specs.decoding.Gathered.{AreByBlock, bodies_in, place_in}
use Rattle.jk_tile.proofs.Showing.{ends_fit, listed_bodies}
use Rattle.jk_tile.proofs.decoding.jobs.add_some_blocks.Goals as goal

pub bodies_by_block-requires-clause-ends : goal.bodies_by_block-requires-clause-ends
bodies_by_block-requires-clause-ends c =
    subst (λ ws. AllByRecursion (λ w. place_end w < 2 ^ 64) ws) (sym c.packets.ensures) (ends_fit (length c.args.source.now.bytes) (2 ^ 64) c.args.source.now.packets c.requires.source.fits c.requires.source.ends)

pub index-requires : goal.index-requires
index-requires c =
    let s = c.args.source.now in
    let ends = subst (λ ws. AllByRecursion (λ w. place_end w ≤ length s.bytes) ws) (sym c.packets.ensures) c.requires.source.ends in
    let long = (c.in_ok-lists.ensures.lists (length s.bytes) ends).long in
    let lt = c.loop-j-test.true in
    let same = c.in_ok-lists.lists.ok in
    omega (arith, lt, long, same)

pub add_block-requires-clause-inside : goal.add_block-requires-clause-inside
add_block-requires-clause-inside c =
    let s = c.args.source.now in
    let p = c.args.part in
    let ends = subst (λ ws. AllByRecursion (λ w. place_end w ≤ length s.bytes) ws) (sym c.packets.ensures) c.requires.source.ends in
    let w = c.args.some in
    let lists = subst (λ i. AreByBlock (length s.bytes) i w.first w.count (λ bytes. bodies_in bytes (map (place_in c.packets.result.now) c.args.numbers.now)) c.in_ok-lists.lists.items)
    c.requires.band (c.in_ok-lists.ensures.lists (length s.bytes) ends) in
    (listed_bodies s p.resolution p.precinct p.band c.loop-j.j w.first w.count c.args.numbers.now c.packets.result.now c.in_ok-lists.lists.items c.index.result.now c.deref.result.now
    c.requires.numbers c.packets.ensures lists c.loop-j-test.true c.index.ensures c.deref.ensures.value).0

pub overflow_add-block : goal.overflow_add-block
overflow_add-block c = omega (arith, c.requires.few, c.requires.some, c.loop-j-test.true)
