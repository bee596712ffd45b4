use Rattle.std.proofs.Common.{◌∙◌}
use Rattle.jk_extras.proofs.NextOther.{tells_next, tells_none}
use Rattle.jk_extras.proofs.finding.other_after.Goals as goal

pub returns-clause-next : goal.returns-clause-next
returns-clause-next c = λ passed b behind stand wanted. c.next_other.ensures ∙ tells_next c.args.from c.args.file.now passed b behind stand wanted

pub returns-clause-last : goal.returns-clause-last
returns-clause-last c = λ passed stand. c.next_other.ensures ∙ tells_none c.args.from c.args.file.now passed stand
