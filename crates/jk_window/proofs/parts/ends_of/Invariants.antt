use Rattle.jk_window.proofs.PartLaws.{IsCutting}
use Rattle.jk_window.proofs.parts.ends_of.Given as goal

abbrev pub invariant-loop-place : goal.invariant-loop-place
invariant-loop-place l = IsCutting l.entries l.places l.ends.items l.place-index l.next
