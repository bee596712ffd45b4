-- The tables of the precincts of a picture's tiles.
use Rattle.std.specs.Prelude.{◌≡◌, ℕ, ◌<◌, length, slice_index_or}
use Rattle.std.specs.Global.{Vec}
use Rattle.jk_math.specs.Lists.{lists_of}
use Rattle.jk_math.specs.Picture.{Picture, IsPicture}
use Rattle.jk_packet.specs.Written.{Table}
use Rattle.jk_tile.specs.encoding.PacketsWritten.{written_coding}
use Rattle.jk_params.specs.PictureFrames.{frame_of}
use Rattle.jk_code.specs.ComingRows.{IsComing, tiles_coming, lists_coming}
use Rattle.jk_code.specs.declared.tabled.TableTiles.{TableTiles}

-- They are those of this picture.
pub record AreTablesOf (s : TableTiles) (p : Picture) : Type 0 where
  pub coming : IsComing s.coming
  pub picture : IsPicture p
  pub frame : frame_of p ≡ s.coming.frame
  pub coding : s.coding.now ≡ written_coding p s.coming.parameters.now
  pub count : length s.tables.now ≡ tiles_coming s.coming
  pub tables : (t : ℕ) (other : Vec (Vec Table)) → t < tiles_coming s.coming
      → lists_of (slice_index_or s.tables.now t other).items ≡ lists_coming s.coming s.coding.now p t
