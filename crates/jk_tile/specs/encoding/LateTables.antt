-- Tables that are filled in when the exponents are known (T.800 B.10.5, E.1).
use Rattle.std.specs.Prelude.{◌≡◌, ℕ, ◌<◌, List, length, map, slice_index_or, ℤ}
use Rattle.std.specs.List.{flat_map, range_with_len}
use Rattle.jk_math.specs.Lists.{lists_of}
use Rattle.jk_marks.specs.declared.coding.Coding.{Coding}
use Rattle.jk_geom.specs.Precincts.{precinct_number}
use Rattle.jk_packet.specs.Written.{Table}
use Rattle.jk_wave.specs.Analysis.{analysed_bands}
use Rattle.jk_walk.specs.TilePackets.{orientations, band_number}
use Rattle.jk_tile.specs.encoding.PacketsWritten.{band_tables_at}
use Rattle.jk_tile.specs.encoding.TileWritten.{WrittenBands}
use Rattle.jk_tile.specs.encoding.Strips.{ComponentFrame, band_at, AreCodedAbove, HavePlanes}
use Rattle.jk_tile.specs.declared.encoding.fallen.FallenBand.{FallenBand}

-- the same coding with other guard bits and exponents
abbrev pub with_steps : Coding → (guard : ℕ) → (exponents : List ℕ) → Coding
with_steps k guard exponents = record {
  levels = k.levels;
  xcb = k.xcb;
  ycb = k.ycb;
  precincts = k.precincts;
  style = k.style;
  guard = guard;
  exponents = exponents;
}

-- codings that differ in these alone
abbrev pub AreAlike : Coding → Coding → Type 0
AreAlike k j = j ≡ with_steps k j.guard j.exponents

-- what is written of the first sub-bands of precinct n of resolution r, where f gives the
-- coefficients by sub-band, column and row
abbrev pub first_tables : ComponentFrame → Coding → (ℕ → ℕ → ℕ → ℤ) → (r count n : ℕ) → List Table
first_tables s k f r count n = flat_map (λ ts. ts) (map (band_tables_at s.layers s.rect k f r n) (range_with_len 0 count))

-- ---- the sub-bands of a resolution, whose rows are all in

-- they have a list of code-blocks for each precinct, none with more bit-planes than these
abbrev pub HoldBlocks : ComponentFrame → (planes : ℕ → ℕ) → (r : ℕ) → List FallenBand → Type 0
HoldBlocks s planes r all = (i : ℕ) (other : FallenBand) → i < length (orientations r) →
    (length (slice_index_or all (band_number r i) other).blocks.items ≡ precinct_number s.rect s.coding r)
    × HavePlanes (planes (band_number r i)) (lists_of (slice_index_or all (band_number r i) other).blocks.items)

-- which are those of f
abbrev pub HaveBlocks : ComponentFrame → (ℕ → ℕ → ℕ → ℤ) → (r : ℕ) → List FallenBand → Type 0
HaveBlocks s f r all = (i : ℕ) (other : FallenBand) → i < length (orientations r)
    → AreCodedAbove s f r i (band_at s r i).y1 (lists_of (slice_index_or all (band_number r i) other).blocks.items)

-- the component as it is written at once: all its sub-bands, and its coding with exponents
abbrev pub bands_from : ComponentFrame → Coding → (ℕ → ℕ → ℤ) → WrittenBands
bands_from s j f =
    record { rect = s.rect; coding = j; layers = s.layers; bands = analysed_bands s.rect j.levels f }
