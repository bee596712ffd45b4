use Rattle.std.proofs.Common.{◌≡◌, ◌⊎◌, ◌-◌, ◌≤◌, ◌++◌, ℕ, List}
use Rattle.jk_math.specs.Front.{IsFront}
use Rattle.jk_walk.specs.TilePackets.{slice_of}
use Rattle.jk_stored.specs.Hands.{IsHeld}
use Rattle.jk_stored.proofs.content.put_stretch.Given as goal

-- the stretch was put up to a place
abbrev pub invariant-loop-at : goal.invariant-loop-at
invariant-loop-at g l =
    (l.start ≤ l.at)
    × ((l.at ≤ l.end) ⊎ (l.at ≡ l.start))
    × ((c : List ℕ) → g.S.Stored.keeps l.stored c → IsHeld c l.fn.hand → IsHeld c l.hand)
    × ((c : List ℕ) → g.S.Stored.keeps l.stored c → IsHeld c l.fn.hand → l.out.items ≡ l.fn.out.items ++ slice_of c (l.start, l.at))
    × IsFront l.fn.out.items l.out.items

abbrev pub decreases-loop-at : goal.decreases-loop-at
decreases-loop-at g l = l.end - l.at
