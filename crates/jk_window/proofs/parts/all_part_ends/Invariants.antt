use Rattle.jk_window.proofs.PartLaws.{HaveEndsUpto}
use Rattle.jk_window.proofs.parts.all_part_ends.Given as goal

abbrev pub invariant-loop-tile : goal.invariant-loop-tile
invariant-loop-tile l = HaveEndsUpto l.headers l.packets l.all.items l.tile
