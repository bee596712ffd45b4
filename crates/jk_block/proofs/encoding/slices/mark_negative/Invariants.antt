use Rattle.std.proofs.Common.{◌≡◌, ℤ, ◌+◌, ◌*◌, length}
use Rattle.jk_scan.specs.Neighbours.{Field}
use Rattle.jk_scan.specs.Flags.{IsDrawn, across}
use Rattle.jk_block.specs.encoding.Slices.{negative_to, IsShort, IsSliced}
use Rattle.jk_block.proofs.encoding.slices.mark_negative.Given as goal

abbrev pub invariant-loop-word : goal.invariant-loop-word
invariant-loop-word l = (length l.words ≡ length l.fn.words) × ((q : Field ℤ) → IsShort l.shape q → IsSliced l.shape 24 q l.slices → IsDrawn l.shape (negative_to l.shape q (l.stripe * across l.shape)) l.fn.words → IsDrawn l.shape (negative_to l.shape q (l.stripe * across l.shape + l.word)) l.words)
