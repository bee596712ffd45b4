use Rattle.std.proofs.lemmas.List.Elements.{All-push, All-same}
use Rattle.jk_tile.specs.encoding.Ahead.{IsCodable}
use Rattle.jk_tile.proofs.encoding.row_coding.list_part.Goals as goal

pub cut_part-requires-clause-j : goal.cut_part-requires-clause-j
cut_part-requires-clause-j c = c.in-Some.ensures.some.0.each c.loop-k.k c.loop-k-test.true

pub loop-k-preserved : goal.loop-k-preserved
loop-k-preserved c = All-same IsCodable c.push.new.self.items _ c.in_ok-push.ensures.items (All-push IsCodable c.loop-k.uncoded.blocks.items c.in_ok-block.block c.loop-k.invariant c.in_ok-block.ensures.block)
