use Rattle.std.proofs.Common.{◌≡◌, ℕ, List, ◌++◌, true}
use Rattle.jk_math.specs.Picture.{Picture}
use Rattle.jk_window.specs.Views.{holds_below}
use Rattle.jk_code.specs.Written.{part_fits}
use Rattle.jk_code.specs.Beginnings.{parts_upto}
use Rattle.jk_code.specs.Contents.{HasTiles}
use Rattle.jk_code.proofs.writing.put_rest.Given as goal

-- the parts of the tiles before, without the first, are written
abbrev pub invariant-loop-number : goal.invariant-loop-number
invariant-loop-number g l = record {
  written : (p : Picture) → HasTiles g.T.TileContents.tells l.source l.tiles p
      → (text : List ℕ) × g.W.TextSink.took l.initial.writer text l.writer
      × (parts_upto p l.source.parameters.now 1 ++ text ≡ parts_upto p l.source.parameters.now l.number);
  fit : (p : Picture) → HasTiles g.T.TileContents.tells l.source l.tiles p
      → part_fits p l.source.parameters.now 0 ≡ true → holds_below (part_fits p l.source.parameters.now) l.number ≡ true;
}
