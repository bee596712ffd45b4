use Rattle.std.proofs.Common.{List, ℕ, All}
use Rattle.jk_tile.specs.decoding.Decoded.{IsDecoded, AreBlocksOf}
use Rattle.jk_tile.proofs.decoding.decoded.all_blocks.Given as goal

-- of code-blocks of one codestream all are, those before this list and those behind it
abbrev pub invariant-loop-group : goal.invariant-loop-group
invariant-loop-group l = (bytes : List ℕ) → All (AreBlocksOf bytes) l.fn.groups.items
    → All (IsDecoded bytes) l.blocks.items × All (AreBlocksOf bytes) l.group-iterator.rest.items
