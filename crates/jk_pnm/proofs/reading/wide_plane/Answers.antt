use Rattle.std.proofs.Common.{ℕ, ℤ, List, ◌*◌, ◌+◌, pos, get_or, map, sym, ap, ◌∙◌, arith}
use Rattle.std.specs.List.{range_with_len}
use Rattle.jk_pnm.proofs.PlaneLaws.{filled}
use Rattle.jk_pnm.proofs.reading.wide_plane.Goals as goal

-- the sample of a pixel
abbrev wide_sample : (raster : List ℕ) → (components component pixel : ℕ) → ℤ
wide_sample raster components component pixel =
    pos (256 * get_or raster (2 * (pixel * components + component)) 0 + get_or raster (2 * (pixel * components + component) + 1) 0)

pub returns-then-components-eq1-clause-value : goal.returns-then-components-eq1-clause-value
returns-then-components-eq1-clause-value c =
    let all = c.in_ok-samples.samples in
    let lent = c.deref_mut.ensures.len in
    let count = c.put_wide.ensures.count in
    let len = c.in_ok-samples.ensures.len in
    filled (wide_sample c.args.raster.now 1 c.args.component) c.put_wide.new.samples all.items all.len c.args.pixels
    (omega (arith, count, lent, len)) len (λ k lt. c.put_wide.ensures.each k (omega (arith, lt, lent, len)))
    ∙ ap (λ (n : ℕ). map (wide_sample c.args.raster.now n c.args.component) (range_with_len 0 c.args.pixels)) (sym c.if-components-eq1.true)

pub returns-clause-value : goal.returns-clause-value
returns-clause-value c =
    let all = c.in_ok-samples.samples in
    let lent = c.deref_mut-2.ensures.len in
    let count = c.put_wide-2.ensures.count in
    let len = c.in_ok-samples.ensures.len in
    filled (wide_sample c.args.raster.now c.args.components c.args.component) c.put_wide-2.new.samples all.items all.len c.args.pixels
    (omega (arith, count, lent, len)) len (λ k lt. c.put_wide-2.ensures.each k (omega (arith, lt, lent, len)))
