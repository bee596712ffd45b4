use Rattle.std.proofs.Common.{◌≡◌, ◌<◌, ◌≤◌, ◌^◌, ℕ, List, length, map, take, get_or, sym, subst, ◌∙◌, refl}
use Rattle.std.proofs.lemmas.List.{take_all}
use Rattle.jk_walk.specs.declared.places.PacketPlace.{PacketPlace}
use Rattle.jk_walk.specs.WalkReading.{place_end}
use Rattle.jk_tile.specs.decoding.Gathered.{place_in, bodies_in, AreByBlock}
use Rattle.jk_tile.proofs.decoding.Gathering.{place_read, by_block_none, by_block_packet, ends_read}
use Rattle.jk_tile.proofs.decoding.bodies.bodies_by_block.Goals as goal

pub loop-index-init : goal.loop-index-init
loop-index-init c = record {
  long = c.in_ok-lists.ensures.long;
  lists = λ size ends. by_block_none size c.args.blocks.band c.args.blocks.first c.args.blocks.count c.in_ok-lists.lists.items c.in_ok-lists.ensures.long c.in_ok-lists.ensures.empty;
}

pub loop-index-preserved : goal.loop-index-preserved
loop-index-preserved c =
    let ws = c.args.packets.now in
    let k = c.loop-index.index in
    let number = get_or c.args.numbers.now k 0 in
    let inside : number < length ws = c.requires.numbers k 0 c.loop-index-test.true in
    let w = c.index-packets-numbers.result in
    let is : w ≡ place_in ws number = c.index-packets-numbers.is ∙ place_read ws number w inside in
    record {
      long = c.in_ok-add_bodies.ensures.long;
      lists = λ size ends.
          let end = subst (λ (x : PacketPlace). place_end x ≤ size) (sym c.index-packets-numbers.is) (ends_read (λ x. place_end x ≤ size) ws number w inside ends) in
          by_block_packet size c.args.blocks.band c.args.blocks.first c.args.blocks.count ws c.args.numbers.now k number w c.add_bodies.new.lists.items c.loop-index-test.true refl is
          (c.in_ok-add_bodies.ensures.lists size (λ bytes. bodies_in bytes (map (place_in ws) (take k c.args.numbers.now))) end (c.loop-index.invariant.lists size ends));
    }

pub add_bodies-requires-clause-end : goal.add_bodies-requires-clause-end
add_bodies-requires-clause-end c =
    let inside = c.requires.numbers c.loop-index.index 0 c.loop-index-test.true in
    let w = c.index-packets-numbers.result in
    subst (λ (x : PacketPlace). place_end x < 2 ^ 64) (sym c.index-packets-numbers.is) (ends_read (λ x. place_end x < 2 ^ 64) c.args.packets.now (get_or c.args.numbers.now c.loop-index.index 0) w inside c.requires.ends)

pub returns-clause-lists : goal.returns-clause-lists
returns-clause-lists c = λ size ends.
    let all : take c.loop-index.index c.args.numbers.now ≡ c.args.numbers.now = take_all c.loop-index.index c.args.numbers.now (let h = c.loop-index-test.false in h) in
    subst (λ (ns : List ℕ). AreByBlock size c.args.blocks.band c.args.blocks.first c.args.blocks.count (λ bytes. bodies_in bytes (map (place_in c.args.packets.now) ns)) c.loop-index.lists.items) all (c.loop-index.invariant.lists size ends)
