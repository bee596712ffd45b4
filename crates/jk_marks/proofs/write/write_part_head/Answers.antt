use Rattle.std.proofs.Common.{◌≡◌, ◌+◌, length, append_assoc, arith}
use Rattle.jk_marks.specs.Codestream.{part_text}
use Rattle.jk_marks.proofs.write.write_part_head.Goals as goal

pub returns-clause-ok : goal.returns-clause-ok
unfolding part_text
returns-clause-ok c content long =
    rw (c.in_ok-put_two.ensures.ok, c.in_ok-put_sot.ensures.ok) (let e : c.in-Ok.psot ≡ 14 + length content = omega (arith, c.in-Ok.ensures, long) in rw e (simp append_assoc))
