use Rattle.jk_code.specs.Rows.{WereTaken, picture_of, IsRowWalk, rows_left}
use Rattle.jk_code.proofs.rows.give_rows.Given as goal

abbrev pub invariant-loop-walk : goal.invariant-loop-walk
invariant-loop-walk g l = record {
  walk : IsRowWalk l.coded l.walk;
  taken : WereTaken g.S.Rows.took (picture_of l.coded) l.coded.area.y0 l.walk.y l.fn.rows l.rows;
}

abbrev pub decreases-loop-walk : goal.decreases-loop-walk
decreases-loop-walk g l = rows_left l.coded l.walk
