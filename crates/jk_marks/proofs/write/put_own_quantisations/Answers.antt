use Rattle.std.proofs.Common.{append_assoc}
use Rattle.jk_marks.proofs.WriteLaws.{steps_text}
use Rattle.jk_marks.proofs.write.put_own_quantisations.Goals as goal

pub returns-clause-ok : goal.returns-clause-ok
returns-clause-ok c =
    rw (
      steps_text c.args.main.now,
      c.in_ok-put_steps_of-4.ensures.ok,
      c.in_ok-put_steps_of-3.ensures.ok,
      c.in_ok-put_steps_of-2.ensures.ok,
      c.in_ok-put_steps_of.ensures.ok,
    ) (simp append_assoc)
