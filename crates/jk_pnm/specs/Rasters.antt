-- The file of a picture whose raster was made in pieces.
use Rattle.std.specs.Prelude.{◌≡◌, ℕ, ◌*◌, true, List, length}
use Rattle.std.specs.List.{flat_map}
use Rattle.std.specs.Global.{Vec}
use Rattle.jk_math.specs.Picture.{Picture}
use Rattle.jk_pnm.specs.declared.rasters.RasterFrame.{RasterFrame}
use Rattle.jk_pnm.specs.Written.{is_written, maxval_of, raster_text}

-- the bytes of all pieces, one behind another
abbrev pub pieces_text : List (Vec ℕ) → List ℕ
pieces_text pieces = flat_map (λ v. v.items) pieces

-- The frame is the picture's, and the pieces are its raster, if it has a file.
pub record AreRastersOf (frame : RasterFrame) (pieces : List (Vec ℕ)) (p : Picture) : Type 0 where
  pub components : frame.components ≡ length p.planes
  pub signed : frame.signed ≡ p.signed
  pub width : frame.width ≡ p.width
  pub height : frame.height ≡ p.height
  pub depth : frame.depth ≡ p.depth
  pub raster : is_written p ≡ true → pieces_text pieces ≡ raster_text (maxval_of p.depth) p.planes (p.width * p.height)
