use Rattle.std.proofs.Common.{◌≡◌, ◌++◌, ℕ, List, length, map, take}
use Rattle.std.specs.List.{flat_map}
use Rattle.jk_marks.specs.Copying.{main_kept_at}
use Rattle.jk_stored.specs.Hands.{IsHeld}
use Rattle.jk_stored.specs.Making.{Made, made_text, IsMade, Shows}
use Rattle.jk_stored.proofs.MakingLaws.{MadeUpto}
use Rattle.jk_stored.proofs.making.make.Given as goal

-- the tile-parts of the first tiles are made
abbrev pub invariant-loop-tile : goal.invariant-loop-tile
invariant-loop-tile g l =
    (made : List Made)
    × (l.out.items ≡ main_kept_at l.sources.outline.now.bytes.items ++ flat_map made_text made)
    × (map (λ (m : Made). m.size) made ≡ take l.tile l.sources.outline.now.parts.items)
    × (length made ≡ l.tile)
    × MadeUpto (λ t at place m. IsMade l.sources.outline.now.bytes.items l.sources.headers.now t at m) 0 l.sources.outline.now.main l.sources.outline.now.main made l.tile l.at l.place
    × ((c : List ℕ) → g.S.Stored.keeps l.sources.stored.now c → IsHeld c l.fn.hand → IsHeld c l.hand)
    × ((c : List ℕ) → g.S.Stored.keeps l.sources.stored.now c → length c ≡ l.size → IsHeld c l.fn.hand
    → MadeUpto (Shows c l.sources.headers.now l.sources.sight.window l.sources.sight.reduce) 0 l.sources.outline.now.main l.sources.outline.now.main made l.tile l.at l.place)
