use Rattle.std.proofs.Common.{append_assoc}
use Rattle.jk_marks.proofs.WriteLaws.{coc_text}
use Rattle.jk_marks.proofs.write.put_coc.Goals as goal

pub returns-clause-ok : goal.returns-clause-ok
returns-clause-ok c =
    rw (
      coc_text c.args.component c.args.style.now,
      c.in_ok-put_style.ensures.ok,
      c.in_ok-extend_from_slice.ensures.items,
      c.in_ok-put_two-2.ensures.ok,
      c.in_ok-put_two.ensures.ok,
      c.as_slice.ensures,
      c.given_bit.ensures,
    ) (simp append_assoc)
