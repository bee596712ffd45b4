-- The rows of an image that a list of its pixels gives, one stripe below the other.
use Rattle.std.specs.Prelude.{◌≡◌, ℤ, map}
use Rattle.jk_math.specs.Picture.{Picture, IsPicture}
use Rattle.jk_math.specs.declared.fault.Fault.{Fault}
use Rattle.jk_math.specs.declared.fault.Fault.TheVariants.{BadParameters}
use Rattle.jk_c.specs.declared.pixel_supply.PixelSupply.{PixelSupply}
use Rattle.jk_c.specs.Pictured.{pictured, stripe_in}

-- the picture whose rows it gives, where elements of the list stand for these numbers
abbrev pub picture_of : {X : Type 0} → (value : X → ℤ) → PixelSupply X → Picture
picture_of value s = pictured s.frame (map value s.pixels.now)

-- It gave the next rows of that picture, and has the same picture.
pub record HasGivenRows {X : Type 0} (value : X → ℤ) (a : PixelSupply X) (v : Picture) (b : PixelSupply X) : Type 0 where
  pub frame : b.frame ≡ a.frame
  pub pixels : b.pixels.now ≡ a.pixels.now
  pub rows : v ≡ stripe_in a.frame (map value a.pixels.now) a.given b.given

-- A sample of that picture passes its depth.
pub record HasRefusedRows {X : Type 0} (value : X → ℤ) (a : PixelSupply X) (e : Fault) (b : PixelSupply X) : Type 0 where
  pub fault : e ≡ BadParameters
  pub outside : IsPicture (picture_of value a) → ⊥
