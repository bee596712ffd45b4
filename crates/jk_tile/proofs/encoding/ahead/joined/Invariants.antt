use Rattle.std.proofs.Common.{◌≡◌, ◌++◌}
use Rattle.std.specs.List.{flat_map}
use Rattle.jk_math.specs.Lists.{lists_of}
use Rattle.jk_tile.proofs.encoding.ahead.joined.Given as goal

abbrev pub invariant-loop-list : goal.invariant-loop-list
invariant-loop-list l = l.coded.items ++ flat_map (λ own. own) (lists_of l.list-iterator.rest.items) ≡ flat_map (λ own. own) (lists_of l.fn.lists.items)
