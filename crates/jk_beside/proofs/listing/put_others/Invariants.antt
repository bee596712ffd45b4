use Rattle.std.proofs.Common.{◌≡◌, ◌++◌, ◌-◌, ℕ, List, length}
use Rattle.std.specs.String.{string_bytes}
use Rattle.jk_extras.specs.declared.finding.Found.{Found}
use Rattle.jk_beside.specs.Others.{Reach}
use Rattle.jk_beside.specs.Listing.{AreLines}
use Rattle.jk_beside.proofs.listing.put_others.Given as goal

abbrev pub invariant-loop-at : goal.invariant-loop-at
invariant-loop-at l =
    (fs : List Found) × (text : List ℕ) × Reach l.file l.from fs l.at × AreLines l.file fs text
    × (string_bytes l.lines ≡ string_bytes l.fn.lines ++ text)

abbrev pub decreases-loop-at : goal.decreases-loop-at
decreases-loop-at l = length l.file - l.at
