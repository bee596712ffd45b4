use Rattle.std.proofs.Common.{◌++◌, inr}
use Rattle.std.proofs.lemmas.Result.{err_from_is_err_and}
use Rattle.jk_code.proofs.SendingLaws.{put_behind, sent_first}
use Rattle.jk_code.proofs.writing.put_start.Goals as goal

pub returns-in_err-send : goal.returns-in_err-send
returns-in_err-send g c =
    let same = err_from_is_err_and c.from_residual.result c.from_residual.ensures.1 in
    let sent = c.in_err-send.ensures in
    rw (same.1, same.2) (sent.0, sent.1, λ text is. (inr sent.2.0, sent_first c.args.before.now text sent.0 sent.2.1))

pub returns : goal.returns
returns g c =
    let a = c.args.writer.now in
    let b = c.send.new.writer in
    let d = c.put_data.new.writer in
    let first = c.in_ok-send.ensures in
    let last = c.put_data.ensures in (
      first.0 ++ last.0,
      g.met.W.TextSink.joined a b d first.0 last.0 first.1 last.1,
      λ text is. put_behind g.W.TextSink.tells c.args.before.now text first.0 last.0 c.put_data.result first.2 (last.2 text is),
    )
