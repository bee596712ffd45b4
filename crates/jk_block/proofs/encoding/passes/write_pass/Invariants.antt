use Rattle.std.proofs.Common.{◌≡◌, ◌++◌}
use Rattle.jk_scan.specs.Passes.{joined, column_decisions}
use Rattle.jk_block.specs.Steps.{number_of}
use Rattle.jk_block.specs.encoding.Viewed.{seen, IsFlagged, moment_at}
use Rattle.jk_block.proofs.encoding.passes.write_pass.Given as goal

abbrev pub invariant-loop-stripe : goal.invariant-loop-stripe
invariant-loop-stripe l =
    (l.list ≡ l.fn.list ++ joined l.stripe (λ i. joined l.block.shape.width (λ x. column_decisions l.block.shape (seen l.block) (number_of l.pass) x i))) × IsFlagged l.block (moment_at l.block.shape (number_of l.pass) 0 l.stripe 0) l.flags
