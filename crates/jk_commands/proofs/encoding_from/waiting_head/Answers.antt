use Rattle.jk_files.specs.Incoming.{waiting_of}
use Rattle.jk_commands.proofs.StreamFileLaws.{head_waits, head_fits, headless}
use Rattle.jk_commands.proofs.encoding_from.waiting_head.Goals as goal

pub overflow_sub-result : goal.overflow_sub-result
overflow_sub-result g c = head_fits c.waiting-bytes.result.now c.in-Ok.raster.now c.in-Ok.head c.in-Ok.ensures.exact

pub returns-in-Ok-clause-found : goal.returns-in-Ok-clause-found
returns-in-Ok-clause-found g c = head_waits c.waiting-bytes.result.now (waiting_of c.args.incoming.now) c.in-Ok.raster.now c.in-Ok.head c.waiting-bytes.ensures c.in-Ok.ensures.exact

pub returns-in-Err-clause-none : goal.returns-in-Err-clause-none
returns-in-Err-clause-none g c = λ is. headless c.waiting-bytes.result.now (waiting_of c.args.incoming.now) c.in-Err.field-0 c.waiting-bytes.ensures c.in-Err.ensures.exact
