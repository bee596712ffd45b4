use Rattle.std.proofs.Common.{append_assoc}
use Rattle.jk_marks.proofs.write.put_sot.Goals as goal

pub returns-clause-ok : goal.returns-clause-ok
returns-clause-ok c =
    rw (
      c.in_ok-extend_from_slice-2.ensures.items,
      c.in_ok-extend_from_slice.ensures.items,
      c.to_be_bytes.ensures,
      c.in_ok-put_two-3.ensures.ok,
      c.in_ok-put_two-2.ensures.ok,
      c.in_ok-put_two.ensures.ok,
    ) (simp append_assoc)
