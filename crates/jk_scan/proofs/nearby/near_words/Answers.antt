use Rattle.std.proofs.Common.{arith}
use Rattle.jk_scan.proofs.Nearness.{near_at}
use Rattle.jk_scan.proofs.nearby.near_words.Goals as goal

pub returns : goal.returns
returns c f j s centre k within on_row fits turns around =
    let a = c.args.seen in
    near_at f j s centre a.centre c.args.old a.west a.east k fits (omega arith) (omega arith) (omega arith) within on_row turns around
