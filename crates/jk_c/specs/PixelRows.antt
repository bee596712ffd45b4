-- Pixels of an image that comes in stripes of rows, one below the other.
use Rattle.std.specs.Prelude.{◌≡◌, ◌⊎◌, ◌≤◌, true, Bool, ℕ, ℤ, pos, ◌+◌, ◌*◌, ◌-◌, ◌<◌, List, [], ◌++◌, length, slice_index_or, Result, Ok, Err}
use Rattle.jk_math.specs.declared.fault.Fault.{Fault}
use Rattle.jk_math.specs.Picture.{Picture}
use Rattle.jk_c.specs.declared.pixel_rows.PixelRows.{PixelRows}
use Rattle.jk_c.specs.Codes.{done_code, misfit_code, code_of}

-- The picture's samples have so many bits at most, and are with a sign or without.
pub record HasSamples (bits : ℕ) (signed : Bool) (p : Picture) : Type 0 where
  pub sign : p.signed ≡ signed
  pub few : p.depth ≤ bits

-- Elements that stand for numbers are the pixels of a picture's rows from y up to z, the components
-- of a pixel side by side.
pub record HavePixels {X : Type 0} (value : X → ℤ) (p : Picture) (y z : ℕ) (pixels : List X) : Type 0 where
  pub count : length pixels ≡ (z - y) * p.width * length p.planes
  pub each : (c i : ℕ) (other : X) → c < length p.planes → i < (z - y) * p.width
      → value (slice_index_or pixels (i * length p.planes + c) other)
      ≡ slice_index_or (slice_index_or p.planes c []) ((y - p.y0) * p.width + i) (pos 0)

-- The same of all rows.
abbrev pub HaveAllPixels : {X : Type 0} → (value : X → ℤ) → Picture → (pixels : List X) → Type 0
HaveAllPixels value p pixels = HavePixels value p p.y0 (p.y0 + p.height) pixels

-- Where all rows that came had such samples, those of the picture have, and its pixels are behind
-- the others; and all had, where those before had and the picture's have.
pub record TookPixels {X : Type 0} (value : X → ℤ) (bits : ℕ) (signed : Bool) (a : PixelRows X) (p : Picture) (b : PixelRows X) : Type 0 where
  pub taken : b.fits ≡ true → (a.fits ≡ true) × HasSamples bits signed p
      × (pixels : List X) × (b.list.items ≡ a.list.items ++ pixels) × HaveAllPixels value p pixels
  pub fits : a.fits ≡ true → HasSamples bits signed p → b.fits ≡ true

-- What is given of a picture's rows, or of a fault in its place: the number of the fault; or the
-- picture has such samples, and its pixels are in the list; or Misfit, where the list isn't for them.
abbrev pub GivesRows : {X : Type 0} → (value : X → ℤ) → (bits : ℕ) → (signed : Bool) → Result Picture Fault → (before : List X)
    → (code : ℕ) → (after : List X) → Type 0
GivesRows value bits signed (Err e) before code after = (code ≡ code_of e) × (after ≡ before)
GivesRows value bits signed (Ok p) before code after =
    ((code ≡ done_code) × HasSamples bits signed p × (length before ≡ length after) × HaveAllPixels value p after)
    ⊎ ((code ≡ misfit_code) × (HasSamples bits signed p → length before ≡ p.width * p.height * length p.planes → ⊥)
    × (after ≡ before))
