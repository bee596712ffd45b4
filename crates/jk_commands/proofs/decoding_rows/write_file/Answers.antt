use Rattle.std.proofs.Common.{sym, ◌∙◌}
use Rattle.std.proofs.lemmas.Result.{err_from_is_err_and}
use Rattle.jk_code.specs.MeaningReading.{meaning_at}
use Rattle.jk_commands.proofs.LeftLaws.{on_ok}
use Rattle.jk_commands.proofs.FrameLaws.{has_written}
use Rattle.jk_commands.proofs.AheadLaws.{untested, refused_ahead, head_failed, ended_ahead, unwritten_ahead, wrote_file}
use Rattle.jk_commands.proofs.decoding_rows.write_file.Goals as goal

pub returns-in_err-frame-clause-exact : goal.returns-in_err-frame-clause-exact
returns-in_err-frame-clause-exact g c =
    let same = err_from_is_err_and c.from_residual.result c.from_residual.ensures.1 in
    rw (same.1, same.2) (refused_ahead c.args.bytes.now c.args.reduce c.in_err-frame.field-0.0 _ _ c.in_err-frame.ensures.err)

pub returns-in_err-judge_file-clause-exact : goal.returns-in_err-judge_file-clause-exact
returns-in_err-judge_file-clause-exact g c =
    let bytes = c.args.bytes.now in
    let d = c.args.reduce in
    let e = c.in_err-judge_file.field-0.0 in
    let same = err_from_is_err_and c.from_residual-in_err-judge_file.result c.from_residual-in_err-judge_file.ensures.1 in
    rw (same.1, same.2) (refused_ahead bytes d e _ _ (untested (meaning_at bytes d) e c.in_err-judge_file.ensures.exact))

pub returns-then-not-has_file-clause-exact : goal.returns-then-not-has_file-clause-exact
returns-then-not-has_file-clause-exact g c =
    let frame = c.in_ok-frame.frame in
    unwritten_ahead c.args.bytes.now c.args.reduce _ _ (λ p means. sym (has_written frame p (c.in_ok-frame.ensures.frame p means)) ∙ sym c.has_file.ensures ∙ c.if-not-has_file.true) c.in_ok-judge_file.ensures.exact

pub returns-in_err-write_head-clause-exact : goal.returns-in_err-write_head-clause-exact
returns-in_err-write_head-clause-exact g c =
    let frame = c.in_ok-frame.frame in
    let same = err_from_is_err_and c.from_residual-in_err-write_head.result c.from_residual-in_err-write_head.ensures.1 in
    rw (same.1, same.2)
    (head_failed c.args.bytes.now c.args.reduce frame (g.W.Write.contents c.args.writer.now) (g.W.Write.contents c.write_head.new.writer) c.in_err-write_head.field-0.0
    (λ p means. sym (has_written frame p (c.in_ok-frame.ensures.frame p means)) ∙ sym c.has_file.ensures ∙ c.if-not-has_file.false) c.in_ok-frame.ensures.frame c.in_err-write_head.ensures.err)

pub returns-clause-exact : goal.returns-clause-exact
returns-clause-exact g c =
    let frame = c.in_ok-frame.frame in
    ended_ahead c.args.bytes.now c.args.reduce frame (g.W.Write.contents c.args.writer.now) (g.W.Write.contents c.write_head.new.writer) (g.W.Write.contents c.write_rows.new.writer) c.write_rows.result
    (λ p means. sym (has_written frame p (c.in_ok-frame.ensures.frame p means)) ∙ sym c.has_file.ensures ∙ c.if-not-has_file.false) c.in_ok-frame.ensures.frame c.in_ok-write_head.ensures.head
    (on_ok c.write_rows.result (λ t. (t.0, t.1)) c.write_rows.ensures.raster) c.write_rows.ensures.err

pub returns-clause-written : goal.returns-clause-written
returns-clause-written g c =
    let frame = c.in_ok-frame.frame in
    on_ok c.write_rows.result (λ t.
    let is = c.in_ok-frame.ensures.frame t.0 t.1 in
    let has = sym (has_written frame t.0 is) ∙ sym c.has_file.ensures ∙ c.if-not-has_file.false in
    wrote_file c.args.bytes.now c.args.reduce t.0 frame (g.W.Write.contents c.args.writer.now) (g.W.Write.contents c.write_head.new.writer) (g.W.Write.contents c.write_rows.new.writer) t.1 has is c.in_ok-write_head.ensures.head (t.3 has)) c.write_rows.ensures.raster
