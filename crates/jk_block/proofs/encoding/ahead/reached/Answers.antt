use Rattle.jk_block.proofs.encoding.Reaching.{reached_at}
use Rattle.jk_block.proofs.encoding.ahead.reached.Goals as goal

pub returns : goal.returns
returns c = reached_at c.args.known_significant
