use Rattle.jk_tree.proofs.Heights.{wide_shifted}
use Rattle.jk_tree.proofs.levels.nodes_over.Goals as goal

pub returns-clause-exact : goal.returns-clause-exact
returns-clause-exact c = wide_shifted c.args.leaves c.args.level c.requires
