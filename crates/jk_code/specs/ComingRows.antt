-- The tiles of an image whose rows come.
use Rattle.std.specs.Prelude.{◌≡◌, ℕ, ◌+◌, ◌<◌, List, [], length, slice_index_or}
use Rattle.std.specs.List.{flat_map, range_with_len}
use Rattle.jk_math.specs.Picture.{Picture}
use Rattle.jk_math.specs.declared.rect.Rect.{Rect}
use Rattle.jk_marks.specs.Siz.{tile_count}
use Rattle.jk_marks.specs.declared.coding.Coding.{Coding}
use Rattle.jk_packet.specs.Written.{Table}
use Rattle.jk_tile.specs.encoding.TileWriters.{component_lists}
use Rattle.jk_geom.specs.Rectangles.{tile_area}
use Rattle.jk_params.specs.Coding.{coding_with}
use Rattle.jk_params.specs.Profile.{cod_of}
use Rattle.jk_tile.specs.encoding.Forward.{tile_value}
use Rattle.jk_params.specs.PictureFrames.{IsPictureFrame}
use Rattle.jk_params.specs.Profile.{siz_for, IsWrittenFor}
use Rattle.jk_tile.specs.encoding.Strips.{ComponentFrame}
use Rattle.jk_tile.specs.encoding.LateTables.{bands_from}
use Rattle.jk_tile.specs.encoding.FallingTiles.{components_in, IsStandingTile, HasTileSamples}
use Rattle.jk_tile.specs.encoding.FallenTiles.{fallen_in, IsFallenTile, IsCodedTile}
use Rattle.jk_tile.specs.declared.encoding.falling_tile.FallingTile.{FallingTile}
use Rattle.jk_tile.specs.declared.encoding.fallen_tile.FallenTile.{FallenTile}
use Rattle.jk_code.specs.declared.coming.ComingImage.{ComingImage}

-- What holds of it: the parameters allow its frame, and the coding has no exponents yet.
pub record IsComing (s : ComingImage) : Type 0 where
  pub frame : IsPictureFrame s.frame
  pub written : IsWrittenFor s.parameters.now s.frame
  pub coding : s.coding.now ≡ coding_with (cod_of s.parameters.now).style (record { guard = 0; exponents = [] })

-- the rectangle of tile t, how many tiles there are, and what each component of a tile is
abbrev pub area_of_coming : ComingImage → (t : ℕ) → Rect
area_of_coming s t = tile_area (siz_for s.frame s.parameters.now) t

abbrev pub tiles_coming : ComingImage → ℕ
tiles_coming s = tile_count (siz_for s.frame s.parameters.now)

abbrev pub component_of : ComingImage → (t : ℕ) → ComponentFrame
component_of s t = record { rect = tile_area (siz_for s.frame s.parameters.now) t; coding = s.coding.now; layers = s.parameters.now.layers }

-- Tile t stands before row y.
pub record IsFallingTile (s : ComingImage) (t y : ℕ) (x : FallingTile) : Type 0 where
  pub standing : IsStandingTile (component_of s t) x
  pub components : components_in x ≡ s.frame.components
  pub next : x.y ≡ y

-- Tiles, from one on, stand before row y.
abbrev pub AreFalling : ComingImage → (first y : ℕ) → List FallingTile → Type 0
AreFalling s first y tiles = (k : ℕ) (other : FallingTile) → k < length tiles → IsFallingTile s (first + k) y (slice_index_or tiles k other)

-- Their rows above that are those of a picture.
abbrev pub HaveRows : ComingImage → (first : ℕ) → Picture → List FallingTile → Type 0
HaveRows s first p tiles = (k : ℕ) (other : FallingTile) → k < length tiles
    → HasTileSamples (component_of s (first + k)) (tile_value p s.parameters.now.colour) (slice_index_or tiles k other)

-- Tile t is behind its last row.
pub record IsTileFallen (s : ComingImage) (t : ℕ) (x : FallenTile) : Type 0 where
  pub fallen : IsFallenTile (component_of s t) x
  pub components : fallen_in x ≡ s.frame.components

-- So are the first n tiles,
pub record AreFallen (s : ComingImage) (n : ℕ) (tiles : List FallenTile) : Type 0 where
  pub count : length tiles ≡ n
  pub each : (t : ℕ) (other : FallenTile) → t < n → IsTileFallen s t (slice_index_or tiles t other)

-- and they are coded of a picture.
abbrev pub AreCoded : ComingImage → (n : ℕ) → Picture → List FallenTile → Type 0
AreCoded s n p tiles = (t : ℕ) (other : FallenTile) → t < n
    → IsCodedTile (component_of s t) (tile_value p s.parameters.now.colour) (slice_index_or tiles t other)

-- the tables of the precincts of tile t, of a picture and with this coding of its components
abbrev pub lists_coming : ComingImage → Coding → Picture → (t : ℕ) → List (List Table)
lists_coming s j p t =
    flat_map (λ c. component_lists (bands_from (component_of s t) j (tile_value p s.parameters.now.colour c)))
    (range_with_len 0 s.frame.components)
