use Rattle.std.proofs.Common.{◌≡◌, ◌<◌, ◌≤◌, ◌^◌, length, sym, subst, arith}
use Rattle.jk_marks.specs.Siz.{tile_count}
use Rattle.jk_order.specs.PacketOrder.{packet_count}
use Rattle.jk_params.specs.Headers.{tile_in}
use Rattle.jk_walk.specs.TilePackets.{shape_in}
use Rattle.jk_window.specs.Indexing.{IndexFields, entries_of}
use Rattle.jk_window.specs.declared.parts.PartEnds.{PartEnds}
use Rattle.jk_window.specs.PartEnds.{IsPartEnds}
use Rattle.jk_window.proofs.Beside.{tile_few}
use Rattle.jk_window.proofs.kept.Index.parts.Goals as goal

pub returns-clause-ends : goal.returns-clause-ends
returns-clause-ends c =
    let t = c.args.tile in
    let r = c.index.result.now in
    let lt = subst (λ (i : IndexFields). t < tile_count i.headers.siz) (sym c.self.view_is) c.requires in
    let own = subst (λ (p : PartEnds). IsPartEnds (entries_of c.self.inside.packets.items t) (tile_in c.self.inside.headers.tiles t) p) (sym c.index.ensures) (c.self.invariant.1.each t r lt) in
    subst (λ (i : IndexFields). IsPartEnds (entries_of i.packets t) (tile_in i.headers.tiles t) r) c.self.view_is own

pub returns-clause-all : goal.returns-clause-all
returns-clause-all c =
    let t = c.args.tile in
    let lt = subst (λ (i : IndexFields). t < tile_count i.headers.siz) (sym c.self.view_is) c.requires in
    let own = (c.self.invariant.0.within.each t lt).count in
    subst (λ (i : IndexFields). length (entries_of i.packets t) ≡ packet_count (shape_in i.headers.siz (tile_in i.headers.tiles t) t)) c.self.view_is own

pub returns-clause-few : goal.returns-clause-few
returns-clause-few c =
    let t = c.args.tile in
    let lt = subst (λ (i : IndexFields). t < tile_count i.headers.siz) (sym c.self.view_is) c.requires in
    let within = c.self.invariant.0.within in
    let own = (within.each t lt).count in
    let few = tile_few _ _ t within.headers lt in
    subst (λ (i : IndexFields). length (entries_of i.packets t) ≤ 2 ^ 24) c.self.view_is (omega (arith, own, few))
