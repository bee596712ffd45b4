-- What was significant as the last two planes of a block began.
use Rattle.std.specs.Prelude.{ℕ, ◌≤◌, List, length}
use Rattle.jk_scan.specs.declared.shape.BlockShape.{BlockShape}
use Rattle.jk_block.specs.Fields.{words_of, AreUnmarked}

-- words of what was so before the plane above, and before this plane
pub record AgesView : Type 0 where
  pub refined : List ℕ
  pub older : List ℕ

-- The words are as many as show the block, or more.
pub record HasRoom (s : BlockShape) (ages : AgesView) : Type 0 where
  pub refined : words_of s ≤ length ages.refined
  pub older : words_of s ≤ length ages.older

-- Nothing was significant.
pub record IsUnaged (s : BlockShape) (ages : AgesView) : Type 0 where
  pub refined : AreUnmarked s ages.refined
  pub older : AreUnmarked s ages.older
