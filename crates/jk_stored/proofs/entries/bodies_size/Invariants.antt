use Rattle.std.proofs.Common.{◌≡◌, ◌≤◌, take}
use Rattle.jk_walk.specs.WalkReading.{bodies_length}
use Rattle.jk_stored.proofs.entries.bodies_size.Given as goal

-- the bodies of the parts before are there
abbrev pub invariant-loop-part : goal.invariant-loop-part
invariant-loop-part l = record { sum : l.size ≡ bodies_length (take l.part-index l.parts); fits : l.size ≤ l.room }
