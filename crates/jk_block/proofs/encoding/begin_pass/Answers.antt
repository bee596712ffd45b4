use Rattle.jk_block.proofs.encoding.Written.{begins_plainly}
use Rattle.jk_block.proofs.encoding.begin_pass.Goals as goal

pub returns-else-style : goal.returns-else-style
returns-else-style c = λ dss codes. begins_plainly c.args.style.reset c.args.encoder.now dss c.if-style.false codes
