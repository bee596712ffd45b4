use Rattle.std.proofs.Common.{◌-◌, ◌≤◌, ℕ, List, length}
use Rattle.jk_stored.specs.Hands.{IsHeld}
use Rattle.jk_stored.proofs.StoredWalk.{IsOnWay, GoesOn, AreNamed}
use Rattle.jk_stored.proofs.entries.read_stored.Given as goal

-- the entries so far are those of the first packets
abbrev pub invariant-loop : goal.invariant-loop
invariant-loop g l =
    (w : IsOnWay l.shape l.markers.sop l.markers.eph l.packets l.precincts (l.count - l.counter))
    × (l.at ≤ l.end)
    × ((c : List ℕ) → g.S.Stored.keeps l.stored c → IsHeld c l.fn.hand → IsHeld c l.hand)
    × ((c : List ℕ) → g.S.Stored.keeps l.stored c → l.end ≤ length c → IsHeld c l.fn.hand
    → GoesOn c l.shape l.markers.sop l.markers.eph l.fn.part l.at w.names w.states l.all.items)
    × AreNamed l.shape l.names.items w.names
