use Rattle.std.proofs.Common.{◌≡◌, ◌-◌, map}
use Rattle.std.specs.List.{range_with_len}
use Rattle.jk_block.specs.CodedBlocks.{contents}
use Rattle.jk_block.specs.Layers.{passes_upto, bytes_upto}
use Rattle.jk_tile.specs.encoding.PacketsWritten.{passes_before}
use Rattle.jk_tile.proofs.encoding.tables.layer_parts.Given as goal

abbrev pub invariant-loop-layer : goal.invariant-loop-layer
invariant-loop-layer l = record {
  before : l.before ≡ passes_before l.layers l.coded.planes l.layer;
  parts : l.parts.items ≡ map (λ i. record { passes = passes_upto l.layers l.coded.planes i - passes_before l.layers l.coded.planes i; end = bytes_upto l.layers (contents l.coded) i }) (range_with_len 0 l.layer);
}
