use Rattle.std.proofs.Common.{sym, ◌∙◌, ap}
use Rattle.jk_marks.proofs.Laws.{one_tree}
use Rattle.jk_params.specs.Headers.{headers_of}
use Rattle.jk_params.proofs.spelling.one_parse.Goals as goal

pub returns-clause-tree : goal.returns-clause-tree
returns-clause-tree c = one_tree

pub returns-clause-headers : goal.returns-clause-headers
returns-clause-headers c = λ bytes g h is too. is.says ∙ ap headers_of (one_tree bytes is.tree too.tree is.spelled too.spelled) ∙ sym too.says
