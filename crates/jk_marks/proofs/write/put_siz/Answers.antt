use Rattle.std.proofs.Common.{append_assoc}
use Rattle.jk_marks.specs.Siz.{siz_text}
use Rattle.jk_marks.proofs.Appending.{front_more}
use Rattle.jk_marks.proofs.write.put_siz.Goals as goal

pub returns-clause-ok : goal.returns-clause-ok
unfolding siz_text
returns-clause-ok c =
    rw (c.in_ok-put_components.ensures.ok, c.in_ok-put_two-3.ensures.ok, c.in_ok-put_grid.ensures.ok, c.in_ok-put_two-2.ensures.ok, c.in_ok-put_two.ensures.ok) (simp append_assoc)

pub returns-clause-front : goal.returns-clause-front
returns-clause-front c = front_more c.args.out.now.items (siz_text c.args.siz.now) c.put_components.new.out.items (returns-clause-ok c)
