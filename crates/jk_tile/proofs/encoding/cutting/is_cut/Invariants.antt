use Rattle.std.proofs.Common.{◌*◌, take}
use Rattle.jk_math.specs.Raster.{columns_of}
use Rattle.jk_tile.proofs.encoding.Copying.{IsCut}
use Rattle.jk_tile.proofs.encoding.cutting.is_cut.Given as goal

-- the rows before this one are those of the part
abbrev pub invariant-loop-row : goal.invariant-loop-row
invariant-loop-row l = IsCut l.area l.part l.row l.values (take (l.row * columns_of l.part) l.list)
