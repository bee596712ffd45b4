-- Each block has its column of words.
use Rattle.std.proofs.Common.{◌∙◌, arith}
use Rattle.jk_digest.specs.Schedules.{message_block}
use Rattle.jk_digest.proofs.Absorbing.{before_any, one_more, column_of}
use Rattle.jk_digest.proofs.blocks.absorbed.Goals as goal

pub loop-k-init : goal.loop-k-init
loop-k-init c = before_any c.args.hash.now c.args.blocks.now

pub loop-k-preserved : goal.loop-k-preserved
loop-k-preserved c =
    c.compressed.ensures (message_block c.args.blocks.now c.loop-k.k) (column_of (message_block c.args.blocks.now) c.schedules.new.words c.loop-k.k (omega arith) (rw (c.block.ensures.block, c.block-2.ensures.block, c.block-3.ensures.block, c.block-4.ensures.block) at c.schedules.ensures))
    ∙ one_more c.args.hash.now c.args.blocks.now c.loop-k.hash c.loop-k.k c.loop-k.invariant
