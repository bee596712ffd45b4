use Rattle.std.proofs.Common.{append_assoc}
use Rattle.jk_marks.proofs.WriteLaws.{cod_text}
use Rattle.jk_marks.proofs.write.put_cod.Goals as goal

pub returns-clause-ok : goal.returns-clause-ok
returns-clause-ok c =
    rw (
      cod_text c.args.cod.now,
      c.in_ok-put_style.ensures.ok,
      c.in_ok-push.ensures.items,
      c.in_ok-put_two-3.ensures.ok,
      c.in_ok-extend_from_slice.ensures.items,
      c.in_ok-put_two-2.ensures.ok,
      c.in_ok-put_two.ensures.ok,
      c.as_slice.ensures,
      c.coding_flags.ensures,
      c.code.ensures,
      c.bit.ensures,
    ) (simp append_assoc)
