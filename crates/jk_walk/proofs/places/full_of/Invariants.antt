use Rattle.std.proofs.Common.{◌≡◌, ◌++◌, drop}
use Rattle.jk_walk.specs.WalkReading.{full_numbers}
use Rattle.jk_walk.proofs.places.full_of.Given as goal

-- what was found and what is still to be found are all
abbrev pub invariant-loop-number : goal.invariant-loop-number
invariant-loop-number l = l.full.items ++ full_numbers l.number (drop l.number l.places) ≡ full_numbers 0 l.places
