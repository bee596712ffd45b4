use Rattle.std.proofs.Common.{◌≡◌, ◌≤◌, ◌+◌, ◌-◌, drop, length}
use Rattle.jk_math.specs.Picture.{Picture}
use Rattle.jk_code.specs.ComingRows.{AreFallen, AreCoded, HaveRows}
use Rattle.jk_code.proofs.coming.keep_tiles.Given as goal

-- the tiles before are kept
abbrev pub invariant-loop-tile : goal.invariant-loop-tile
invariant-loop-tile l = record {
  more : length l.fn.fallen.items ≤ length l.fallen.items;
  few : length l.fallen.items ≤ length l.fn.fallen.items + length l.fn.tiles.items;
  left : l.tile-iterator.rest.items ≡ drop (length l.fallen.items - length l.fn.fallen.items) l.fn.tiles.items;
  fallen : AreFallen l.coming (length l.fallen.items) l.fallen.items;
  rows : (p : Picture) → HaveRows l.coming (length l.fn.fallen.items) p l.fn.tiles.items
      → AreCoded l.coming (length l.fn.fallen.items) p l.fn.fallen.items → AreCoded l.coming (length l.fallen.items) p l.fallen.items;
}
