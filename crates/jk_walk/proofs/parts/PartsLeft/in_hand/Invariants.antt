use Rattle.std.proofs.Common.{◌≡◌, ◌-◌, ◌∷◌, length, drop}
use Rattle.jk_walk.specs.WalkReading.{begun}
use Rattle.jk_walk.proofs.parts.PartsLeft.in_hand.Given as goal

-- the first part in which bytes are left stays
abbrev pub invariant-loop-self : goal.invariant-loop-self
invariant-loop-self l = begun l.fn.self ≡ begun ((l.self-inside.at, l.self-inside.end) ∷ drop l.self-inside.next l.self-inside.parts.now)

abbrev pub decreases-loop-self : goal.decreases-loop-self
decreases-loop-self l = length l.self-inside.parts.now - l.self-inside.next
