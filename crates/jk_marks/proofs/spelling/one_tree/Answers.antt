use Rattle.jk_marks.proofs.OneTree.{one_tree}
use Rattle.jk_marks.proofs.spelling.one_tree.Goals as goal

pub returns : goal.returns
returns c = one_tree
