-- The sub-bands of what is written, and the exponents that they need (T.800 E.1).
use Rattle.std.specs.Prelude.{ℕ, zero, suc, ◌+◌, ◌-◌, ◌%◌, ◌==◌, if◌then◌else◌, max, List, length, map, ℤ}
use Rattle.std.specs.List.{range_with_len}
use Rattle.jk_math.specs.Picture.{Picture}
use Rattle.jk_math.specs.Raster.{raster}
use Rattle.jk_marks.specs.Siz.{tile_count}
use Rattle.jk_geom.specs.Rectangles.{tile_area}
use Rattle.jk_params.specs.declared.parameters.Parameters.{Parameters}
use Rattle.jk_params.specs.Coding.{band_count}
use Rattle.jk_params.specs.Profile.{siz_of}
use Rattle.jk_math.specs.BitLength.{bit_length}
use Rattle.jk_block.specs.BlockWritten.{greatest}
use Rattle.jk_wave.specs.Analysis.{analysed}
use Rattle.jk_wave.specs.Bands.{numbered_area}
use Rattle.jk_tile.specs.encoding.Forward.{tile_value}

-- the coefficient at a place of sub-band b, in the order of QCD, of a component of tile t
abbrev pub written_coefficient : Picture → Parameters → (t c b : ℕ) → ℕ → ℕ → ℤ
written_coefficient p q t c b = analysed (tile_area (siz_of p q) t) q.levels (tile_value p q.colour c) b

-- those of the sub-band, row by row
abbrev pub written_band : Picture → Parameters → (t c b : ℕ) → List ℤ
written_band p q t c b = raster (numbered_area (tile_area (siz_of p q) t) q.levels b) (written_coefficient p q t c b)

-- the greatest of the first n numbers
abbrev pub most : (ℕ → ℕ) → ℕ → ℕ
most f zero = 0
most f (suc n) = max (most f n) (f n)

-- how many bits the greatest magnitude of sub-band b has, in a tile, and in all tiles and
-- components
abbrev pub tile_need : Picture → Parameters → (t b : ℕ) → ℕ
tile_need p q t b = most (λ c. bit_length (greatest (written_band p q t c b))) (length p.planes)

unfoldable pub need : Picture → Parameters → ℕ → ℕ
need p q b = most (λ t. tile_need p q t b) (tile_count (siz_of p q))

-- by how many bits a sub-band, in the order of QCD, may pass the samples' depth: LL by none, HL and
-- LH by one, HH by two (E.1.1, table E.1)
abbrev pub gain : ℕ → ℕ
gain zero = 0
gain (suc b) = if b % 3 == 2 then 2 else 1

-- The exponents of the sub-bands of so many levels, whose greatest magnitudes have so many bits: the
-- depth and the gain, or more where there are greater coefficients. With two guard bits a sub-band has
-- a bit-plane more than its exponent (equation E-2).
abbrev pub exponents_with : (depth levels : ℕ) → (needs : ℕ → ℕ) → List ℕ
exponents_with depth levels needs =
    map (λ b. max (depth + gain b) (needs b - 1)) (range_with_len 0 (band_count levels))

-- those of an image
abbrev pub exponents_for : Picture → Parameters → List ℕ
exponents_for p q = exponents_with p.depth q.levels (need p q)
