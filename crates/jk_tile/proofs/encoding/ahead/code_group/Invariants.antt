use Rattle.std.proofs.Common.{◌≡◌, map, take}
use Rattle.jk_tile.specs.encoding.Ahead.{layered_block}
use Rattle.jk_tile.proofs.encoding.ahead.code_group.Given as goal

abbrev pub invariant-loop-index : goal.invariant-loop-index
invariant-loop-index l = l.coded.items ≡ map (layered_block l.layers) (take l.index l.blocks)
