use Rattle.std.proofs.Common.{◌≡◌, ◌^◌, ◌<◌, take}
use Rattle.jk_block.specs.BlockWritten.{greatest}
use Rattle.jk_block.proofs.encoding.top_bits.Given as goal

abbrev pub invariant-loop-value : goal.invariant-loop-value
invariant-loop-value l = (l.most ≡ greatest (take l.value-index l.values)) × (l.most < 2 ^ 23)
