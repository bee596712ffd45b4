use Rattle.std.proofs.Common.{◌+◌, length, take, drop, ◌-◌, arith}
use Rattle.std.proofs.lemmas.List.{length-take, length-drop}
use Rattle.jk_math.proofs.WritingLaws.{appends_part, appends_kept, front_taken}
use Rattle.jk_math.proofs.writing.write_out.Goals as goal

pub returns-in-Ok-eq0 : goal.returns-in-Ok-eq0
returns-in-Ok-eq0 g c =
    let text = c.args.text.now in
    let count = c.in-Ok-eq0.field-0 in (
      take (c.loop-sent.sent + count) text,
      appends_part _ _ _ text c.loop-sent.sent count c.loop-sent.invariant.0 c.loop-sent.invariant.1 c.in-Ok-eq0.ensures.bytes,
      front_taken text (c.loop-sent.sent + count),
    )

pub loop-sent-preserved : goal.loop-sent-preserved
loop-sent-preserved g c =
    let text = c.args.text.now in (
      omega (arith, c.in-Ok.ensures.bound, length-take (length text - c.loop-sent.sent) (drop c.loop-sent.sent text), length-drop c.loop-sent.sent text),
      appends_part _ _ _ text c.loop-sent.sent c.in-Ok.count c.loop-sent.invariant.0 c.loop-sent.invariant.1 c.in-Ok.ensures.bytes,
    )

pub returns-in-Err : goal.returns-in-Err
returns-in-Err g c =
    let text = c.args.text.now in
    (take c.loop-sent.sent text, appends_kept _ _ _ (take c.loop-sent.sent text) c.loop-sent.invariant.1 c.in-Err.ensures.bytes, front_taken text c.loop-sent.sent)
