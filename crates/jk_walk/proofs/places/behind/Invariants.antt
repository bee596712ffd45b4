use Rattle.std.proofs.Common.{◌≡◌, ◌+◌, take}
use Rattle.jk_walk.specs.WalkReading.{bodies_length}
use Rattle.jk_walk.proofs.places.behind.Given as goal

-- the bodies of the parts before are passed
abbrev pub invariant-loop-part : goal.invariant-loop-part
invariant-loop-part l = l.end ≡ l.body + bodies_length (take l.part-index l.parts)
