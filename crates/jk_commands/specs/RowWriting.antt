-- A writer that gets the rows of a picture, stripe by stripe.
use Rattle.std.specs.Prelude.{◌≡◌, ℕ, ◌*◌, true, List, Option, Result, Ok}
use Rattle.std.specs.Io.KnownBytes.{Appends}
use Rattle.jk_math.specs.Front.{IsFront}
use Rattle.jk_math.specs.Picture.{Picture}
use Rattle.jk_math.specs.declared.fault.Fault.{Fault}
use Rattle.jk_math.specs.declared.fault.Fault.TheVariants.{Shelf}
use Rattle.jk_pnm.specs.Written.{is_written, maxval_of, raster_text}
use Rattle.jk_commands.specs.declared.decoding_rows.RowWriter.{RowWriter}

-- a beginning of a text was written between two states of a writer
abbrev pub HasFront : (text : List ℕ) → (a b : Option (List ℕ)) → Type 0
HasFront text a b = (part : List ℕ) × Appends a b part × IsFront part text

-- the same of the file that is due
abbrev pub HasBegun : (due : Result (List ℕ) Fault) → (a b : Option (List ℕ)) → Type 0
HasBegun due a b = (file : List ℕ) × (due ≡ Ok file) × HasFront file a b

-- It is the same writer, and the raster of the picture is behind what it had, if the picture has a
-- file.
abbrev pub IsRasterBehind : {W : Type 0} → (contents : W → Option (List ℕ)) → RowWriter W → Picture → RowWriter W
    → Type 0
IsRasterBehind contents a p b = (b.writer.ghost_name ≡ a.writer.ghost_name)
    × (is_written p ≡ true → Appends (contents a.writer.now) (contents b.writer.now)
    (raster_text (maxval_of p.depth) p.planes (p.width * p.height)))

-- A write of the raster of the picture failed: it is the same writer, and a beginning of the raster is
-- behind what it had, if the picture has a file.
abbrev pub IsRasterBroken : {W : Type 0} → (contents : W → Option (List ℕ)) → RowWriter W → Picture → Fault → RowWriter W
    → Type 0
IsRasterBroken contents a p e b = (e ≡ Shelf) × (b.writer.ghost_name ≡ a.writer.ghost_name)
    × (is_written p ≡ true → HasFront (raster_text (maxval_of p.depth) p.planes (p.width * p.height))
    (contents a.writer.now) (contents b.writer.now))
