use Rattle.std.proofs.Common.{◌≡◌, ◌*◌, ap, refl, arith}
use Rattle.jk_scan.specs.Flags.{across}
use Rattle.jk_block.specs.Meaning.{value_in}
use Rattle.jk_block.proofs.encoding.Slicing.{sliced_none, sliced_all}
use Rattle.jk_block.proofs.encoding.slices.slice_all.Goals as goal

pub loop-row-init : goal.loop-row-init
loop-row-init c =
    let s = c.args.shape in
    (sliced_none s c.args.shift (0 * across s) (value_in s c.args.values.now) c.args.slices.now (omega arith) c.requires.clear, refl)

pub returns-clause-sliced : goal.returns-clause-sliced
returns-clause-sliced c =
    let s = c.args.shape in
    let row = c.loop-row.row in
    sliced_all s c.args.shift (row * across s) (value_in s c.args.values.now) c.loop-row.slices (let e : row ≡ s.height = omega arith in ap (λ n. n * across s) e) c.loop-row.invariant.0
