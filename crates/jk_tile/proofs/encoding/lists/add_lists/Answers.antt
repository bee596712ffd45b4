use Rattle.jk_math.specs.Lists.{lists_of}
use Rattle.jk_tile.proofs.encoding.ListsKept.{none_more}
use Rattle.jk_tile.proofs.encoding.lists.add_lists.Goals as goal

pub loop-preserved : goal.loop-preserved
loop-preserved g c = none_more c.loop.counter (lists_of c.args.lists.now.items) c.loop.lists.items c.push.new.self.items c.new.result c.loop.invariant c.in_ok-push.ensures.items c.new.ensures.items
