-- The words in which a block is read, as they are laid out.
use Rattle.jk_scan.specs.declared.shape.BlockShape.{BlockShape}
use Rattle.jk_block.specs.declared.decoding.block_state.BlockWords.{BlockWords}
use Rattle.jk_block.specs.Fields.{AreUnmarked}

-- They are enough to show the block, and mark no place.
pub record MarkNothing (s : BlockShape) (words : BlockWords) : Type 0 where
  pub significant : AreUnmarked s words.significant.now
  pub negative : AreUnmarked s words.negative.now
  pub visited : AreUnmarked s words.visited.now
  pub even : AreUnmarked s words.even.now
  pub odd : AreUnmarked s words.odd.now
