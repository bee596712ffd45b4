use Rattle.std.proofs.Common.{append_assoc}
use Rattle.jk_marks.proofs.write.put_grid.Goals as goal

pub returns-clause-ok : goal.returns-clause-ok
returns-clause-ok c = rw (c.in_ok-put_four-2.ensures.ok, c.in_ok-put_four.ensures.ok, c.in_ok-put_two.ensures.ok) (simp append_assoc)
