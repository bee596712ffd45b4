use Rattle.std.proofs.Common.{◌≡◌, ◌++◌}
use Rattle.jk_scan.specs.Passes.{joined}
use Rattle.jk_block.specs.Steps.{number_of}
use Rattle.jk_block.specs.encoding.Viewed.{seen, IsFlagged, moment_at, word_decisions}
use Rattle.jk_block.proofs.encoding.passes.write_stripe.Given as goal

abbrev pub invariant-loop-word : goal.invariant-loop-word
invariant-loop-word l =
    (l.list ≡ l.fn.list ++ joined l.word (λ j. word_decisions l.block.shape (seen l.block) (number_of l.pass) j l.stripe)) × IsFlagged l.block (moment_at l.block.shape (number_of l.pass) l.word l.stripe 0) l.flags
