-- What gives the rows of the image of a PGM or PPM file, at the place that is asked for.
use Rattle.std.specs.Prelude.{◌≡◌, ℕ, ◌+◌, ◌≤◌, ◌⊎◌, List, [], Result, Err, ⊤}
use Rattle.jk_math.specs.Answer.{Refuses}
use Rattle.jk_math.specs.Picture.{Picture, IsPicture, IsFrame}
use Rattle.jk_math.specs.declared.fault.Fault.{Fault}
use Rattle.jk_params.specs.declared.parameters.Parameters.{Parameters}
use Rattle.jk_pnm.specs.RasterRows.{Drawing, drawn, picture_told, rows_moved}
use Rattle.jk_code.specs.Beginnings.{Left}
use Rattle.jk_options.specs.Plans.{at_place}
use Rattle.jk_commands.specs.declared.encoding_rows.FileRows.{FileRows}

-- the picture whose rows it gives, whose samples may be above maxval
abbrev pub placed_rows : FileRows → Picture
placed_rows s = at_place (drawn s.raster) s.x0 s.y0

-- It gave the next rows of its picture, and nothing else is another.
pub record HasGiven (a : FileRows) (v : Picture) (b : FileRows) : Type 0 where
  pub same : b ≡ record a { given = b.given }
  pub end : b.given ≤ a.raster.header.height
  pub rows : v ≡ at_place (rows_moved (drawn a.raster) a.given b.given) a.x0 (a.y0 + a.given)

-- Where its picture may lie, this fault is one of the file.
abbrev pub HasRefused : FileRows → Fault → FileRows → Type 0
HasRefused a e b = IsFrame a.x0 a.y0 a.raster.header.width a.raster.header.height → Refuses e (picture_told a.raster)

-- What was written of a picture that is placed there: nothing, where memory was refused or a sample
-- is above maxval; else what encoding the picture leaves.
abbrev pub IsLeftOfRows : Drawing → (x0 y0 : ℕ) → Parameters → List ℕ → Result ⊤ Fault → Type 0
IsLeftOfRows d x0 y0 q text result =
    ((e : Fault) × (result ≡ Err e) × Refuses e (picture_told d) × (text ≡ []))
    ⊎ (IsPicture (drawn d) × Left (at_place (drawn d) x0 y0) q text result)
