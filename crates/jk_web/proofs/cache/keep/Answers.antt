use Rattle.jk_web.proofs.CacheLaws.{put_or_not}
use Rattle.jk_web.proofs.cache.keep.Goals as goal

pub returns : goal.returns
returns c = put_or_not c.put.result c.args.cuts.now c.put.new.self c.args.key c.args.cut c.put.ensures.entries c.put.ensures.err
