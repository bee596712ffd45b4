use Rattle.jk_scan.proofs.ZeroContexts.{zero_where}
use Rattle.jk_scan.proofs.theorems.untouched_context.Goals as goal

pub returns : goal.returns
returns c = zero_where
