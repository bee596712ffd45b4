-- What the packets of a tile decode to.
use Rattle.std.specs.Prelude.{◌≡◌, ℕ, ◌+◌, ◌-◌, ◌<◌, ◌≤◌, true, List, length, map, take, Option, Some, None, ℤ}
use Rattle.std.specs.List.{flat_map}
use Rattle.jk_math.specs.declared.rect.Rect.{Rect}
use Rattle.jk_marks.specs.declared.siz.Siz.{Siz}
use Rattle.jk_marks.specs.declared.coding.Coding.{Coding}
use Rattle.jk_geom.specs.Rectangles.{IsWithin, tile_area}
use Rattle.jk_geom.specs.Partitions.{reduced_area, block_number}
use Rattle.jk_geom.specs.TileShapes.{coding_of}
use Rattle.jk_order.specs.PacketOrder.{IsPrecinct}
use Rattle.jk_params.specs.Headers.{Headers, TileFields}
use Rattle.jk_scan.specs.Neighbours.{Field, is_inside}
use Rattle.jk_block.specs.Meaning.{IsBlockMeaning}
use Rattle.jk_wave.specs.Resolutions.{resolution_of}
use Rattle.jk_walk.specs.TilePackets.{slice_of, shape_in, Body, Packet, orientations, band_number, planes_of}
use Rattle.jk_walk.specs.TilePackets.{of_precinct, IsTile}
use Rattle.jk_tile.specs.TileBlocks.{grid_at, block_at_place, block_shape, block_bodies, block_bytes, passes_in}
use Rattle.jk_tile.specs.TileBlocks.{zeros_in}
use Rattle.jk_tile.specs.Pixels.{tile_sample}

-- the part that an image reduced by d levels has of tile t
abbrev pub shown_area : Siz → (t d : ℕ) → Rect
shown_area siz t d = reduced_area (tile_area siz t) d

-- the values of a tile-component d resolutions below its highest, from its sub-bands
abbrev pub values_of : Rect → Coding → ℕ → (ℕ → ℕ → ℕ → ℤ) → ℕ → ℕ → ℤ
values_of rect k d bands = resolution_of rect k.levels bands (k.levels - d)

-- the first layers, or all
abbrev pub below : {X : Type 0} → Option ℕ → List X → List X
below None xs = xs
below (Some n) xs = take n xs

-- The bodies mean the coefficients at the place of code-block j of sub-band i in precinct n of
-- resolution r. Without a body there is no coding pass, and they are zero.
pub record IsBlockAt (a : Rect) (k : Coding) (bodies : List Body) (coefficients : ℕ → ℕ → ℕ → ℤ)
    (r n i j : ℕ) : Type 0 where
  pub values : Field ℤ
  pub means : IsBlockMeaning (block_shape a k r n i j)
      (planes_of k (band_number r i) - zeros_in (block_bodies i j bodies)) (passes_in (block_bodies i j bodies))
      (block_bytes (block_bodies i j bodies)) values
  pub placed : (x y : ℕ) → is_inside (block_shape a k r n i j) x y ≡ true
      → coefficients (band_number r i) ((block_at_place a k r n i j).x0 + x) ((block_at_place a k r n i j).y0 + y)
      ≡ values x y

-- The samples of a tile at reduction d, by component, column and row on the reduced grid, from the
-- packets of its data in the codestream, of which the layers given are decoded.
pub record DecodesLayers (codestream : List ℕ) (h : Headers) (f : TileFields) (t d : ℕ) (layers : Option ℕ)
    (samples : ℕ → ℕ → ℕ → ℤ) : Type 0 where
  pub packets : List Packet
  pub tile : IsTile (shape_in h.siz f t) f.cod.sop f.cod.eph packets (map (slice_of codestream) f.data_places)
  -- by component, sub-band in the order of QCD, column and row
  pub coefficients : ℕ → ℕ → ℕ → ℕ → ℤ
  pub blocks : (c r n i j : ℕ) → IsPrecinct (shape_in h.siz f t) c r n → r + d ≤ (coding_of f.codings c).levels
      → i < length (orientations r)
      → j < block_number (grid_at (tile_area h.siz t) (coding_of f.codings c) r n i)
      → IsBlockAt (tile_area h.siz t) (coding_of f.codings c)
      (flat_map (λ p. p.bodies) (below layers (of_precinct c r n packets))) (coefficients c) r n i j
  pub shown : (component x y : ℕ) → component < h.siz.components → IsWithin (shown_area h.siz t d) x y
      → samples component x y
      ≡ tile_sample f.cod h.siz
      (λ c. values_of (tile_area h.siz t) (coding_of f.codings c) d (coefficients c) x y) component

-- with all layers
abbrev pub DecodesTile : List ℕ → Headers → TileFields → (t d : ℕ) → (ℕ → ℕ → ℕ → ℤ) → Type 0
DecodesTile codestream h f t d samples = DecodesLayers codestream h f t d None samples
