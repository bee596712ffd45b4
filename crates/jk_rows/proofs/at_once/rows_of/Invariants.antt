use Rattle.std.proofs.Common.{◌≡◌, map, take, drop}
use Rattle.std.specs.List.{range_with_len}
use Rattle.jk_math.specs.Lists.{lists_of, list_at}
use Rattle.jk_rows.proofs.at_once.rows_of.Given as goal

abbrev pub invariant-loop-c : goal.invariant-loop-c
invariant-loop-c l = lists_of l.rows.items ≡ map (λ c. take l.count (drop l.front (list_at l.planes c))) (range_with_len 0 l.c)
