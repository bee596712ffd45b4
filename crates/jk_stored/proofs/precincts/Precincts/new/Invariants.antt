use Rattle.std.proofs.Common.{◌≡◌, [], replicate}
use Rattle.jk_math.specs.Lists.{lists_of}
use Rattle.jk_stored.proofs.precincts.Precincts.new.Given as goal

-- the rows that were made are empty
abbrev pub invariant-loop : goal.invariant-loop
invariant-loop l = lists_of l.resolutions.items ≡ replicate l.counter []
