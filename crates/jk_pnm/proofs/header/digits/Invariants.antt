use Rattle.std.proofs.Common.{◌≡◌, ◌-◌, ◌^◌, ◌<◌, ◌≤◌, length, drop}
use Rattle.jk_pnm.specs.Reading.{digits_at}
use Rattle.jk_pnm.proofs.header.digits.Given as goal

abbrev pub invariant-loop-at : goal.invariant-loop-at
invariant-loop-at l = record { within : l.at ≤ length l.bytes; small : l.value < 2 ^ 32; goes_on : digits_at l.value (drop l.at l.bytes) ≡ digits_at 0 l.bytes }

abbrev pub decreases-loop-at : goal.decreases-loop-at
decreases-loop-at l = length l.bytes - l.at
