use Rattle.std.proofs.Common.{◌≡◌, ◌≤◌, ◌++◌, ℕ, List, length, take, map}
use Rattle.std.specs.List.{flat_map}
use Rattle.jk_stored.specs.Outlines.{Front, shortened, AreFronts, size_of}
use Rattle.jk_stored.proofs.outline.read_outline.Given as goal

-- the fronts of the first tile-parts
abbrev pub invariant-loop : goal.invariant-loop
invariant-loop g l =
    (fronts : List Front)
    × (l.bytes.items ≡ take l.main l.front ++ flat_map shortened fronts)
    × (l.parts.items ≡ map size_of fronts)
    × (l.at ≤ l.size)
    × ((c : List ℕ) → g.S.Stored.keeps l.stored c → length c ≡ l.size → AreFronts c l.main fronts l.at)
