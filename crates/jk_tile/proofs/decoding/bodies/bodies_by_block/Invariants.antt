use Rattle.std.proofs.Common.{◌≡◌, ◌≤◌, ℕ, length, map, take}
use Rattle.std.specs.List.{AllByRecursion}
use Rattle.jk_walk.specs.WalkReading.{place_end}
use Rattle.jk_tile.specs.decoding.Gathered.{AreByBlock, bodies_in, place_in}
use Rattle.jk_tile.proofs.decoding.bodies.bodies_by_block.Given as goal

abbrev pub invariant-loop-index : goal.invariant-loop-index
invariant-loop-index l = record {
  long : length l.lists.items ≡ l.blocks.count;
  lists : (size : ℕ) → AllByRecursion (λ w. place_end w ≤ size) l.packets → AreByBlock size l.blocks.band l.blocks.first l.blocks.count (λ bytes. bodies_in bytes (map (place_in l.packets) (take l.index l.numbers))) l.lists.items;
}
