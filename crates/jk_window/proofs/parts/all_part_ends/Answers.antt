use Rattle.std.proofs.Common.{[], List, subst, ◌∙◌, arith}
use Rattle.jk_params.specs.Headers.{tile_in}
use Rattle.jk_walk.specs.declared.entries.PacketEntry.{PacketEntry}
use Rattle.jk_window.specs.PartEnds.{IsPartEnds}
use Rattle.jk_window.proofs.PlanLaws.{get_same}
use Rattle.jk_window.proofs.PartLaws.{upto_none, upto_more, upto_all}
use Rattle.jk_window.proofs.parts.all_part_ends.Goals as goal

pub loop-tile-init : goal.loop-tile-init
loop-tile-init c = upto_none c.args.headers.now c.args.packets.now c.in_ok-all.all.items c.in_ok-all.ensures.items

pub part_ends-requires : goal.part_ends-requires
part_ends-requires c = omega (arith, c.loop-tile-test.true, c.requires.count, c.requires.headers.1.tiles)

pub loop-tile-preserved : goal.loop-tile-preserved
loop-tile-preserved c =
    let h = c.args.headers.now in
    let packets = c.args.packets.now in
    let t = c.loop-tile.tile in
    let x = c.in_ok-part_ends.field-0 in
    let entries = c.index-packets-tile.result in
    let here = subst (λ (es : List PacketEntry). IsPartEnds es (tile_in h.tiles t) x) (c.index-packets-tile.is ∙ get_same packets t entries [] c.loop-tile-test.true) c.in_ok-part_ends.ensures.ends in
    upto_more h packets c.loop-tile.all.items c.push.new.self.items t x c.loop-tile.invariant here c.in_ok-push.ensures.items

pub returns-clause-ends : goal.returns-clause-ends
returns-clause-ends c =
    upto_all c.args.headers.now c.args.packets.now c.loop-tile.all.items c.loop-tile.tile
    (omega (arith, c.loop-tile-test.false, c.loop-tile.auto.tile-end, c.requires.count)) c.loop-tile.invariant
