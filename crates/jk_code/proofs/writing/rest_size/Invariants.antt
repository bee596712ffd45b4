use Rattle.std.proofs.Common.{◌≡◌, ℕ, ◌+◌, ◌*◌, ◌<◌, ◌≤◌, ◌^◌, length, true}
use Rattle.jk_math.specs.Picture.{Picture}
use Rattle.jk_code.specs.Written.{part_fits}
use Rattle.jk_code.specs.Beginnings.{parts_upto}
use Rattle.jk_code.specs.Contents.{HasTiles}
use Rattle.jk_code.proofs.writing.rest_size.Given as goal

-- the parts of the tiles before, without the first
abbrev pub invariant-loop-number : goal.invariant-loop-number
invariant-loop-number g l = record {
  size : (p : Picture) → HasTiles g.T.TileContents.tells l.source l.tiles p
      → length (parts_upto p l.source.parameters.now 1) + l.size ≡ length (parts_upto p l.source.parameters.now l.number);
  small : l.size ≤ l.number * 2 ^ 32;
  fit : (p : Picture) → HasTiles g.T.TileContents.tells l.source l.tiles p
      → (t : ℕ) → 1 ≤ t → t < l.number → part_fits p l.source.parameters.now t ≡ true;
}
