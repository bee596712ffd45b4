use Rattle.std.proofs.Common.{◌≡◌, ◌^◌}
use Rattle.jk_beside.proofs.words.power_of_ten.Given as goal

abbrev pub invariant-loop : goal.invariant-loop
invariant-loop l = l.power ≡ 10 ^ l.counter
