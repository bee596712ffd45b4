use Rattle.std.proofs.Common.{[], ◌-◌, ◌^◌, ◌≤◌}
use Rattle.jk_files.specs.Incoming.{Took}
use Rattle.jk_commands.proofs.encoding_from.head_of.Given as goal

-- nothing was taken
abbrev pub invariant-loop-there : goal.invariant-loop-there
invariant-loop-there g l = Took g.S.Read.remaining l.fn.incoming l.incoming [] × (1 ≤ l.asked)

-- each turn asks for more than the one before
abbrev pub decreases-loop-there : goal.decreases-loop-there
decreases-loop-there g l = 2 ^ 64 - l.asked
