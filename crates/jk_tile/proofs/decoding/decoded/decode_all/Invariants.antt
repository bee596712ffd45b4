use Rattle.std.proofs.Common.{All}
use Rattle.jk_tile.specs.decoding.Decoded.{IsDecoded}
use Rattle.jk_tile.proofs.decoding.decoded.decode_all.Given as goal

abbrev pub invariant-loop-index : goal.invariant-loop-index
invariant-loop-index l = All (IsDecoded l.bytes) l.blocks.items
