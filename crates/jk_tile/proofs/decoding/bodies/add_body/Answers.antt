use Rattle.jk_tile.proofs.decoding.Gathering.{list_set}
use Rattle.jk_tile.proofs.decoding.bodies.add_body.Goals as goal

pub returns-clause-lists : goal.returns-clause-lists
returns-clause-lists c = list_set c.args.lists.now.items c.args.index c.index_mut.result.now c.push.new.self c.args.body c.requires c.index_mut.ensures.value c.in_ok-push.ensures.items
