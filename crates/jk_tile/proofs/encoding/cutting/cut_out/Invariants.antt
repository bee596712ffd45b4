use Rattle.jk_tile.proofs.encoding.Copying.{IsCut}
use Rattle.jk_tile.proofs.encoding.cutting.cut_out.Given as goal

abbrev pub invariant-loop-row : goal.invariant-loop-row
invariant-loop-row l = IsCut l.area l.part l.row l.values l.list.items
