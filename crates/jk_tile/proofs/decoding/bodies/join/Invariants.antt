use Rattle.std.proofs.Common.{◌≡◌, take, map}
use Rattle.jk_tile.specs.TileBlocks.{block_bytes}
use Rattle.jk_tile.specs.decoding.Gathered.{body_of}
use Rattle.jk_tile.proofs.decoding.bodies.join.Given as goal

abbrev pub invariant-loop-index : goal.invariant-loop-index
invariant-loop-index l = l.segment.items ≡ block_bytes (map (body_of l.bytes) (take l.index l.bodies))
