use Rattle.std.proofs.Common.{◌*◌, ◌+◌, pos, get_or, arith}
use Rattle.jk_pnm.proofs.PlaneLaws.{filled}
use Rattle.jk_pnm.proofs.reading.narrow_plane.Goals as goal

pub returns-clause-value : goal.returns-clause-value
returns-clause-value c =
    let all = c.in_ok-samples.samples in
    let lent = c.deref_mut.ensures.len in
    let count = c.put_narrow.ensures.count in
    let len = c.in_ok-samples.ensures.len in
    filled (λ pixel. pos (get_or c.args.raster.now (pixel * 3 + c.args.component) 0)) c.put_narrow.new.samples all.items all.len c.args.pixels
    (omega (arith, count, lent, len)) len (λ k lt. c.put_narrow.ensures.each k (omega (arith, lt, lent, len)))
