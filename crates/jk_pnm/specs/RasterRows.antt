-- A PGM or PPM file whose header was read and whose raster wasn't, and the rows of its picture.
use Rattle.std.specs.Prelude.{◌≡◌, ℕ, ◌+◌, ◌*◌, ◌-◌, ◌^◌, ◌<◌, ◌≤◌, ◌==◌, not, List, length, take, drop, map}
use Rattle.std.specs.Prelude.{Result, Ok, Err, if◌then◌else◌}
use Rattle.jk_math.specs.Answer.{◌>>=◌, refuse}
use Rattle.jk_math.specs.declared.fault.Fault.{Fault}
use Rattle.jk_math.specs.declared.fault.Fault.TheVariants.{BadPnm}
use Rattle.jk_math.specs.Picture.{Picture}
use Rattle.jk_pnm.specs.declared.header.Header.{Header}
use Rattle.jk_pnm.specs.declared.rasters.RasterFrame.{RasterFrame}
use Rattle.jk_pnm.specs.Heads.{frame_headed}
use Rattle.jk_pnm.specs.Reading.{header_at, raster_size, samples_of, picture_of, are_below, picture_at}

-- what the header of a file says, and the bytes of its raster
pub record Drawing : Type 0 where
  pub header : Header
  pub raster : List ℕ

-- those of a file; BadPnm where the raster has another length than the header asks for
unfoldable pub drawing_at : List ℕ → Result Drawing Fault
drawing_at bytes = do
  header ← header_at bytes
  _ ← refuse (not (length header.1 == raster_size header.0)) BadPnm
  Ok (record { header = header.0; raster = header.1 })

-- What a header that was read holds to, and as many bytes behind it as it asks for.
pub record IsDrawing (d : Drawing) : Type 0 where
  pub wide : 0 < d.header.width
  pub high : 0 < d.header.height
  pub area : d.header.width * d.header.height ≤ 2 ^ 28
  pub maxval : 2 ^ d.header.depth ≡ d.header.maxval + 1
  pub some_bits : 1 ≤ d.header.depth
  pub few_bits : d.header.depth ≤ 16
  pub whole : length d.raster ≡ raster_size d.header

-- the frame of its picture
abbrev pub frame_drawn : Drawing → RasterFrame
frame_drawn d = frame_headed d.header

-- the picture that its raster says, whose samples may be above maxval
abbrev pub drawn : Drawing → Picture
drawn d = picture_of d.header d.raster

-- the same; BadPnm where a sample is above maxval
abbrev pub picture_told : Drawing → Result Picture Fault
picture_told d = picture_at d.header d.raster

-- of a plane with so many columns the rows y up to z
abbrev pub plane_rows : {X : Type 0} → (width y z : ℕ) → List X → List X
plane_rows width y z plane = take ((z - y) * width) (drop (y * width) plane)

-- rows y up to z of a picture, counted from its first one, as a picture of their own at (0, 0)
abbrev pub rows_moved : Picture → (y z : ℕ) → Picture
rows_moved p y z = record p { x0 = 0; y0 = 0; height = z - y; planes = map (plane_rows p.width y z) p.planes }

-- rows y up to z of what is drawn; BadPnm where one of their samples is above maxval
unfoldable pub rows_told : Drawing → (y z : ℕ) → Result Picture Fault
rows_told d y z =
    if are_below d.header.maxval (map (plane_rows d.header.width y z) (samples_of d.header d.raster))
    then Ok (rows_moved (drawn d) y z) else Err BadPnm
