use Rattle.std.proofs.Common.{◌≡◌, ◌++◌, ℕ, List, take}
use Rattle.jk_math.specs.Front.{IsFront}
use Rattle.jk_stored.specs.Hands.{IsHeld}
use Rattle.jk_stored.specs.Contents.{content_of}
use Rattle.jk_stored.proofs.content.put_content.Given as goal

-- the first packets were put
abbrev pub invariant-loop-i : goal.invariant-loop-i
invariant-loop-i g l =
    ((c : List ℕ) → g.S.Stored.keeps l.stored c → IsHeld c l.fn.hand → IsHeld c l.hand)
    × ((c : List ℕ) → g.S.Stored.keeps l.stored c → IsHeld c l.fn.hand → l.out.items ≡ l.fn.out.items ++ content_of c l.seen (take l.i l.names) (take l.i l.entries))
    × IsFront l.fn.out.items l.out.items
