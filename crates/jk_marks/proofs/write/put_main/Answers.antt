use Rattle.std.proofs.Common.{append_assoc}
use Rattle.jk_marks.specs.Codestream.{main_text, segments_of}
use Rattle.jk_marks.proofs.Appending.{front_more, front_then}
use Rattle.jk_marks.proofs.WriteLaws.{written_text}
use Rattle.jk_marks.proofs.write.put_main.Goals as goal

pub returns-clause-ok : goal.returns-clause-ok
unfolding main_text
returns-clause-ok c =
    rw (
      written_text c.args.main.now,
      c.in_ok-put_own_quantisations.ensures.ok,
      c.in_ok-put_own_styles.ensures.ok,
      c.in_ok-put_qcd.ensures.ok,
      c.in_ok-put_cod.ensures.ok,
      c.in_ok-put_siz.ensures.ok,
      c.in_ok-put_two.ensures.ok,
    ) (simp append_assoc)

pub returns-in_err-put_own_quantisations-clause-front : goal.returns-in_err-put_own_quantisations-clause-front
returns-in_err-put_own_quantisations-clause-front c =
    front_then c.put_two.ensures.front (front_then c.put_siz.ensures.front (front_then c.put_cod.ensures.front (front_then c.put_qcd.ensures.front
    (front_then c.put_own_styles.ensures.front c.put_own_quantisations.ensures.front))))

pub returns-clause-front : goal.returns-clause-front
returns-clause-front c = front_more c.args.out.now.items (main_text c.args.main.now.siz (segments_of c.args.main.now)) c.put_own_quantisations.new.out.items (returns-clause-ok c)
