-- One stream more.
use Rattle.std.proofs.Common.{◌≡◌, suc, ◌+◌, sym, ap, ◌∙◌, arith}
use Rattle.jk_order.specs.Streams.{stream_at}
use Rattle.jk_order.specs.Numbers.{total, step, weight}
use Rattle.jk_order.proofs.Totals.{total_none, total_more}
use Rattle.jk_order.proofs.number.step.Goals as goal

pub loop-i-init : goal.loop-i-init
loop-i-init c = (sym (total_none (λ j. weight c.args.frame.now (stream_at c.args.streams.now j) c.args.r)), omega arith)

pub loop-i-preserved : goal.loop-i-preserved
loop-i-preserved c =
    let k = c.loop-i.i in
    let more = total_more (λ j. weight c.args.frame.now (stream_at c.args.streams.now j) c.args.r) k in
    let is = c.weight-sum.ensures.value in
    let few = c.weight-sum.ensures.few in
    let so_far = c.loop-i.invariant.0 in
    let small = c.loop-i.invariant.1 in
    let one : suc k ≡ k + 1 = omega arith in
    (omega arith ∙ ap (λ m. total (λ j. weight c.args.frame.now (stream_at c.args.streams.now j) c.args.r) m) one, omega arith)

pub returns : goal.returns
unfolding step
returns c =
    let done : c.loop-i.i ≡ c.args.count = omega arith in
    c.loop-i.invariant.0 ∙ ap (λ m. total (λ j. weight c.args.frame.now (stream_at c.args.streams.now j) c.args.r) m) done
