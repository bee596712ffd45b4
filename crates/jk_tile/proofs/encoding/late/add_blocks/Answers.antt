use Rattle.std.proofs.Common.{◌≤◌, ◌∙◌}
use Rattle.jk_jobs.proofs.Shares.{rest_all}
use Rattle.jk_tile.specs.encoding.Layered.{Layered}
use Rattle.jk_tile.proofs.encoding.TablesLate.{blocks_more}
use Rattle.jk_tile.proofs.encoding.late.add_blocks.Goals as goal

pub loop-block-preserved : goal.loop-block-preserved
loop-block-preserved c =
    let rest = c.loop-block.block-iterator.rest.items in
    let less = c.next.new.self.rest.items in
    let step = c.in-Some.ensures.steps.0 in
    record {
      room = (rest_all (λ (b : Layered). b.planes ≤ c.args.planes) rest less c.in-Some.block step c.loop-block.invariant.room).1;
      made = blocks_more c.args.planes c.in-Some.block c.table.result c.loop-block.tables.items c.push.new.self.items rest less step c.in_ok-push.ensures.items c.table.ensures.table ∙ c.loop-block.invariant.made;
    }
