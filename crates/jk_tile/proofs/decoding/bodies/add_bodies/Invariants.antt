use Rattle.std.proofs.Common.{◌≡◌, ◌+◌, ◌≤◌, ◌++◌, List, ℕ, length, take}
use Rattle.jk_walk.specs.TilePackets.{Body}
use Rattle.jk_walk.specs.WalkReading.{place_end, bodies_at}
use Rattle.jk_tile.specs.decoding.Gathered.{AreByBlock}
use Rattle.jk_tile.proofs.decoding.Gathering.{lengths}
use Rattle.jk_tile.proofs.decoding.bodies.add_bodies.Given as goal

abbrev pub invariant-loop-index : goal.invariant-loop-index
invariant-loop-index l = record {
  start : l.start ≡ l.packet.body + lengths (take l.index l.packet.parts);
  long : length l.lists.items ≡ l.blocks.count;
  lists : (size : ℕ) (before : List ℕ → List Body) → place_end l.packet ≤ size → AreByBlock size l.blocks.band l.blocks.first l.blocks.count before l.fn.lists.items
      → AreByBlock size l.blocks.band l.blocks.first l.blocks.count (λ bytes. before bytes ++ bodies_at bytes l.packet.body (take l.index l.packet.parts)) l.lists.items;
}
