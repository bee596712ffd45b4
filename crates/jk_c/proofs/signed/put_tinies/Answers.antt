use Rattle.std.proofs.Common.{◌<◌, length, pos, get_or, arith}
use Rattle.jk_c.proofs.Passing.{passed_tiny}
use Rattle.jk_c.proofs.Spreading.{spread_more}
use Rattle.jk_c.proofs.signed.put_tinies.Goals as goal

pub loop-i-preserved : goal.loop-i-preserved
loop-i-preserved c =
    let i = c.loop-i.i in
    let l : i < length c.args.samples.now = omega arith in
    let value = passed_tiny c.tiny.result (get_or c.args.samples.now i (pos 0)) c.tiny.ensures (c.requires.small i (pos 0) l) in
    spread_more (λ z. z) (pos 0) i c.args.components c.args.component _ c.args.samples.now c.args.pixels.now c.loop-i.pixels l c.requires.component c.requires.room value c.loop-i.invariant
