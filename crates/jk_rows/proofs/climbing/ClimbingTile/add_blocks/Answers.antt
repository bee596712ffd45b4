use Rattle.jk_rows.proofs.climbing.ClimbingTile.add_blocks.Goals as goal

pub loop-c-preserved : goal.loop-c-preserved
loop-c-preserved c = λ all. c.in_ok-add_component_blocks.ensures.segments (c.loop-c.invariant all)
