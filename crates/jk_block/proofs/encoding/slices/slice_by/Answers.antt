use Rattle.jk_block.proofs.encoding.Slicing.{bytes_none, bytes_more}
use Rattle.std.proofs.Common.{arith}
use Rattle.jk_block.proofs.encoding.slices.slice_by.Goals as goal

pub loop-c-init : goal.loop-c-init
loop-c-init c = bytes_none c.args.values.now c.args.start c.args.shift

pub loop-c-preserved : goal.loop-c-preserved
loop-c-preserved c = bytes_more c.args.values.now c.args.start c.args.shift c.loop-c.c c.loop-c.word c.byte_at.result (omega arith) c.byte_at.ensures c.loop-c.invariant
