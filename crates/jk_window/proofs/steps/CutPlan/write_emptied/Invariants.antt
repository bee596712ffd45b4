use Rattle.std.proofs.Common.{◌-◌, ◌*◌, ◌≤◌, ◌∷◌, length}
use Rattle.jk_packet.specs.PacketText.{eph_text}
use Rattle.jk_window.specs.Emptying.{emptied_texts}
use Rattle.jk_window.specs.Planning.{IsBehind}
use Rattle.jk_window.proofs.steps.CutPlan.write_emptied.Given as goal

abbrev pub invariant-loop-left : goal.invariant-loop-left
invariant-loop-left l = record {
  few : l.left ≤ l.count;
  behind : IsBehind l.initial.self l.self (λ _. emptied_texts l.eph (l.count - l.left)) ((l.count - l.left) * length (0 ∷ eph_text l.eph));
}

abbrev pub decreases-loop-left : goal.decreases-loop-left
decreases-loop-left l = l.left
