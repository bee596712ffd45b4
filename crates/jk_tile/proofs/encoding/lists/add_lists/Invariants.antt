use Rattle.std.proofs.Common.{◌≡◌, ◌++◌, [], replicate}
use Rattle.jk_math.specs.Lists.{lists_of}
use Rattle.jk_tile.proofs.encoding.lists.add_lists.Given as goal

abbrev pub invariant-loop : goal.invariant-loop
invariant-loop g l = lists_of l.lists.items ≡ lists_of l.fn.lists.items ++ replicate l.counter []
