use Rattle.std.proofs.Common.{◌≡◌, ◌≤◌, ◌++◌, All, map}
use Rattle.jk_tile.specs.encoding.Layered.{table_with}
use Rattle.jk_tile.proofs.encoding.late.add_blocks.Given as goal

abbrev pub invariant-loop-block : goal.invariant-loop-block
invariant-loop-block l = record {
  room : All (λ b. b.planes ≤ l.planes) l.block-iterator.rest.items;
  made : l.tables.items ++ map (table_with l.planes) l.block-iterator.rest.items ≡ l.fn.tables.items ++ map (table_with l.planes) l.fn.blocks.items;
}
