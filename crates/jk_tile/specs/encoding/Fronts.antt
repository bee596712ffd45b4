-- An image that is rebuilt from its coefficients without their lowest bit-planes, as the first of
-- its layers give it.
use Rattle.std.specs.Prelude.{ℕ, ◌-◌, ℤ, unsigned_abs}
use Rattle.std.specs.Int.{is_negative}
use Rattle.jk_math.specs.Picture.{Picture}
use Rattle.jk_geom.specs.Rectangles.{tile_area}
use Rattle.jk_params.specs.declared.parameters.Parameters.{Parameters}
use Rattle.jk_params.specs.Profile.{siz_of, cod_of}
use Rattle.jk_block.specs.Meaning.{with_sign, above}
use Rattle.jk_tile.specs.encoding.Needs.{written_coefficient}
use Rattle.jk_tile.specs.encoding.PacketsWritten.{written_coding}
use Rattle.jk_tile.specs.Pixels.{tile_sample}
use Rattle.jk_tile.specs.TileMeaning.{values_of}

-- a coefficient without its n lowest bit-planes, its sign kept
abbrev pub without_planes : (n : ℕ) → ℤ → ℤ
without_planes n v = with_sign (is_negative v) (above n (unsigned_abs v))

-- The coefficient at a place of sub-band b of a component of tile t, as the first k layers give it:
-- each later layer has one bit-plane.
abbrev pub front_coefficient : Picture → Parameters → (k t c b : ℕ) → ℕ → ℕ → ℤ
front_coefficient p q k t c b x y = without_planes (q.layers - k) (written_coefficient p q t c b x y)

-- the sample of component c at a place of tile t, at reduction d
abbrev pub front_sample : Picture → Parameters → (k d t c x y : ℕ) → ℤ
front_sample p q k d t c x y =
    tile_sample (cod_of q) (siz_of p q)
    (λ i. values_of (tile_area (siz_of p q) t) (written_coding p q) d (front_coefficient p q k t i) x y) c
