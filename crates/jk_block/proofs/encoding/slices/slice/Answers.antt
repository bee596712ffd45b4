use Rattle.std.proofs.Common.{◌≡◌, ◌+◌, ◌∙◌, ap, arith, pos}
use Rattle.std.specs.Prelude.{◌&&◌, nat_lt, slice_index_or}
use Rattle.jk_scan.specs.Bits.{on}
use Rattle.jk_block.specs.encoding.Slices.{signed}
use Rattle.jk_block.proofs.encoding.slices.slice.Goals as goal

pub returns-then-count-eq8 : goal.returns-then-count-eq8
returns-then-count-eq8 c k i p q =
    c.slice_by.ensures k i p q ∙ ap (λ n. nat_lt k n && on (signed (slice_index_or c.args.values.now (c.args.start + k) (pos 0))) (c.args.shift + i)) (let e : 8 ≡ c.args.count = omega (arith, c.if-count-eq8.true) in e)
