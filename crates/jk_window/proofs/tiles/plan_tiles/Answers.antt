use Rattle.jk_window.proofs.RunPlans.{plans_push}
use Rattle.jk_window.proofs.tiles.plan_tiles.Goals as goal

pub loop-tile-preserved : goal.loop-tile-preserved
loop-tile-preserved c = (
  c.loop-tile.invariant.0,
  plans_push c.args.index.now c.args.window.now c.args.view c.loop-tile.tile c.loop-tile.all.items c.push.new.self.items c.in_ok-plan_tile.field-0 c.loop-tile.invariant.1 c.in_ok-plan_tile.ensures.plans c.in_ok-push.ensures.items,
)
