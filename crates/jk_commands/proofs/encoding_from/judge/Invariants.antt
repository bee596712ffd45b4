use Rattle.std.proofs.Common.{◌≡◌, ◌-◌}
use Rattle.jk_commands.proofs.StreamJudging.{IsJudged}
use Rattle.jk_commands.proofs.encoding_from.judge.Given as goal

abbrev pub invariant-loop-y : goal.invariant-loop-y
invariant-loop-y g l = record {
  judged : IsJudged g.S.Read.remaining l.head l.fn.incoming l.incoming l.y;
  height : l.height ≡ l.head.height;
}

abbrev pub decreases-loop-y : goal.decreases-loop-y
decreases-loop-y g l = l.height - l.y
