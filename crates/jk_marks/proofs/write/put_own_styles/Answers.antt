use Rattle.std.proofs.Common.{append_assoc}
use Rattle.jk_marks.proofs.WriteLaws.{styles_text}
use Rattle.jk_marks.proofs.write.put_own_styles.Goals as goal

pub returns-clause-ok : goal.returns-clause-ok
returns-clause-ok c =
    rw (
      styles_text c.args.main.now,
      c.in_ok-put_style_of-4.ensures.ok,
      c.in_ok-put_style_of-3.ensures.ok,
      c.in_ok-put_style_of-2.ensures.ok,
      c.in_ok-put_style_of.ensures.ok,
    ) (simp append_assoc)
