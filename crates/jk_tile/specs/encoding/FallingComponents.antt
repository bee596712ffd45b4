-- A component of a tile whose rows of samples come one after another: what its levels and the
-- strips of its sub-bands hold between two steps.
use Rattle.std.specs.Prelude.{◌≡◌, ℕ, ◌+◌, ◌-◌, ◌*◌, ◌/◌, ◌^◌, ◌<◌, ◌≤◌, ◌==◌, if◌then◌else◌, List, [], length}
use Rattle.std.specs.Prelude.{slice_index_or, ℤ, unsigned_abs}
use Rattle.jk_math.specs.BitLength.{bit_length}
use Rattle.jk_math.specs.Raster.{raster}
use Rattle.jk_block.specs.BlockWritten.{greatest}
use Rattle.jk_geom.specs.Rectangles.{IsWithin}
use Rattle.jk_wave.specs.Analysis.{analysed}
use Rattle.jk_wave.specs.Bands.{numbered_area}
use Rattle.jk_wave.specs.Levels.{half_bound, part_list}
use Rattle.jk_wave.specs.climbing.Held.{rows_between}
use Rattle.jk_wave.specs.declared.falling.level.FallingLevel.{FallingLevel}
use Rattle.jk_wave.specs.declared.falling.stack.Falling.{Falling}
use Rattle.jk_wave.specs.falling.Intervals.{rows_given}
use Rattle.jk_wave.specs.falling.Stack.{fallen_of, IsGiven}
use Rattle.jk_tile.specs.TileBlocks.{band_resolution, band_index}
use Rattle.jk_tile.specs.encoding.Strips.{ComponentFrame, IsFrame, band_at, bands_in, IsBetweenRows, HasRowsOf}
use Rattle.jk_tile.specs.declared.encoding.strips.BandStrips.{BandStrips}
use Rattle.jk_tile.specs.declared.encoding.falling.FallingComponent.{FallingComponent}

-- How far the rows of sub-band i of resolution r are made, where the tile-component is given up to
-- row e.
unfoldable pub band_fallen : ComponentFrame → (e r i : ℕ) → ℕ
band_fallen s e r i = if r == 0 then rows_given s.rect s.coding.levels e s.coding.levels
    else half_bound (fallen_of s.rect s.coding.levels e (s.coding.levels - r)) ((i + 1) / 2)

-- ---- the strips of all sub-bands

-- those of sub-band b, in the order of QCD, where the tile-component is given up to row e
pub record IsBandUpto (s : ComponentFrame) (e b : ℕ) (x : BandStrips) : Type 0 where
  pub resolution : x.resolution ≡ band_resolution b
  pub band : x.band ≡ band_index b
  pub next : x.area.y1 ≡ band_fallen s e (band_resolution b) (band_index b)
  pub holds : IsBetweenRows s x

pub record AreBandsUpto (s : ComponentFrame) (e : ℕ) (all : List BandStrips) : Type 0 where
  pub count : length all ≡ bands_in s
  pub each : (b : ℕ) (other : BandStrips) → b < bands_in s → IsBandUpto s e b (slice_index_or all b other)

-- the rows above the next ones are those of f
abbrev pub HaveRowsOf : ComponentFrame → (ℕ → ℕ → ℕ → ℤ) → List BandStrips → Type 0
HaveRowsOf s f all = (b : ℕ) (other : BandStrips) → b < bands_in s → HasRowsOf s f (slice_index_or all b other)

-- no row of code-blocks waits of which no row is missing
abbrev pub NoneWait : ComponentFrame → List BandStrips → Type 0
NoneWait s all = (b : ℕ) (other : BandStrips) → b < bands_in s → length (slice_index_or all b other).waiting.items ≡ 0

-- ---- the levels

-- The rows of the sub-bands that the levels made of rows d up to e of the tile-component are those of
-- f.
pub record HasMade (s : ComponentFrame) (d e : ℕ) (f : ℕ → ℕ → ℕ → ℤ) (w : Falling) : Type 0 where
  pub low : w.low.items
      ≡ raster (rows_between (band_at s 0 0) (band_fallen s d 0 0) (band_fallen s e 0 0)) (f 0)
  pub high : (n o : ℕ) (other : FallingLevel) → n < s.coding.levels → o < 3
      → part_list (slice_index_or w.all.items n other).parts (o + 1)
      ≡ raster (rows_between (band_at s (s.coding.levels - n) o)
      (band_fallen s d (s.coding.levels - n) o) (band_fallen s e (s.coding.levels - n) o))
      (f (3 * (s.coding.levels - (n + 1)) + (o + 1)))

-- how many bits the greatest magnitude of these rows has in sub-band b
abbrev pub made_need : ComponentFrame → (d e : ℕ) → (ℕ → ℕ → ℕ → ℤ) → ℕ → ℕ
made_need s d e f b = let r = band_resolution b in let i = band_index b in
    bit_length (greatest (raster (rows_between (band_at s r i) (band_fallen s d r i) (band_fallen s e r i)) (f b)))

-- each coefficient has 23 bit-planes at most
abbrev pub AreFew : ComponentFrame → (ℕ → ℕ → ℕ → ℤ) → Type 0
AreFew s f = (b x y : ℕ) → b < bands_in s → IsWithin (numbered_area s.rect s.coding.levels b) x y
    → unsigned_abs (f b x y) < 2 ^ 23

-- no row that was made is left
pub record NoneLeft (w : Falling) : Type 0 where
  pub high : (n o : ℕ) (other : FallingLevel) → n < w.levels → 0 < o → o < 4
      → part_list (slice_index_or w.all.items n other).parts o ≡ []
  pub low : w.low.items ≡ []

-- ---- both

-- samples of 16 bits behind the component transform
abbrev pub AreSixteen : ComponentFrame → (ℕ → ℕ → ℤ) → Type 0
AreSixteen s f = (x y : ℕ) → IsWithin s.rect x y → unsigned_abs (f x y) ≤ 65535

-- The component is between two steps.
pub record IsStanding (s : ComponentFrame) (c : FallingComponent) : Type 0 where
  pub frame : IsFrame s
  pub rect : c.falling.rect ≡ s.rect
  pub levels : c.falling.levels ≡ s.coding.levels
  pub place : c.falling.y ≡ c.y
  pub taken : NoneLeft c.falling
  pub bands : AreBandsUpto s c.y c.bands.items

-- Its rows of samples above the next one are those of f.
pub record HasSamples (s : ComponentFrame) (f : ℕ → ℕ → ℤ) (c : FallingComponent) : Type 0 where
  pub given : IsGiven f c.falling
  pub bands : HaveRowsOf s (analysed s.rect s.coding.levels f) c.bands.items
