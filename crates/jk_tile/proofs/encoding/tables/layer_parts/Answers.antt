use Rattle.std.proofs.Common.{sym, ◌∙◌, arith}
use Rattle.jk_block.specs.CodedBlocks.{contents}
use Rattle.jk_tile.proofs.encoding.LayerTables.{next_passes, before_passes, parts_more}
use Rattle.jk_tile.proofs.encoding.tables.layer_parts.Goals as goal

pub overflow_sub-passes : goal.overflow_sub-passes
overflow_sub-passes c =
    let before = before_passes c.args.layers c.args.coded.now.planes c.loop-layer.layer in
    omega (arith, c.loop-layer.invariant.before, c.passes_upto-passes.ensures.value, before)

pub loop-layer-preserved : goal.loop-layer-preserved
loop-layer-preserved c = record {
  before = c.passes_upto-passes.ensures.value ∙ sym (next_passes c.args.layers c.args.coded.now.planes c.loop-layer.layer);
  parts = parts_more c.args.layers c.loop-layer.layer c.passes_upto-passes.result c.bytes_upto-end.result c.loop-layer.before (contents c.args.coded.now) c.loop-layer.parts.items c.push.new.self.items c.loop-layer.invariant.parts
      c.passes_upto-passes.ensures.value c.loop-layer.invariant.before c.bytes_upto-end.ensures.value c.in_ok-push.ensures.items;
}
