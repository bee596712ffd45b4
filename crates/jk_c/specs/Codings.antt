-- How an image is encoded, as C programs tell it.
use Rattle.std.specs.Prelude.{◌≡◌, ℕ, ◌/◌, ◌%◌, ◌^◌, ◌<◌, ◌≤◌, Bool, not, ◌==◌, ◌&&◌, [], ◌∷◌, map}
use Rattle.std.specs.Prelude.{take, Option, Some, None, if◌then◌else◌}
use Rattle.jk_marks.specs.BlockStyle.{style_byte, style_of}
use Rattle.jk_marks.specs.OrderCode.{order_code}
use Rattle.jk_params.specs.declared.parameters.Parameters.{Parameters}
use Rattle.jk_params.specs.declared.parameters.Container.{Container}
use Rattle.jk_params.specs.declared.parameters.Container.TheVariants.{Raw, Jp2}
use Rattle.jk_c.specs.declared.coding.CallerCoding.{CallerCoding}

-- What a coding says has a place in parameters. What is kept for later is zero.
pub record IsKnownCoding (k : CallerCoding) : Type 0 where
  pub levels : k.levels < 2 ^ 8
  pub layers : k.layers < 2 ^ 16
  pub order : k.order ≤ 4
  pub width : k.block_width < 2 ^ 8
  pub height : k.block_height < 2 ^ 8
  pub precincts : k.precinct_count ≤ 8
  pub style : style_byte (style_of k.style) ≡ k.style
  pub reserved : k.reserved ≡ 0 ∷ 0 ∷ 0 ∷ []

-- PPx and PPy
abbrev pub exponents_of : ℕ → ℕ × ℕ
exponents_of both = (both % 16, both / 16)

-- the sides of a tile, or none where both are 0
abbrev pub tile_of : (width height : ℕ) → Option (ℕ × ℕ)
tile_of width height = if (width == 0) && (height == 0) then None else Some (width, height)

abbrev pub container_of : ℕ → Container
container_of raw = if raw == 0 then Jp2 else Raw

abbrev pub is_set : ℕ → Bool
is_set word = not (word == 0)

-- The parameters say what the coding asks for.
pub record AreParameters (k : CallerCoding) (q : Parameters) : Type 0 where
  pub levels : q.levels ≡ k.levels
  pub layers : q.layers ≡ k.layers
  pub order : order_code q.order ≡ k.order
  pub tile : q.tile ≡ tile_of k.tile_width k.tile_height
  pub block_width : q.xcb ≡ k.block_width
  pub block_height : q.ycb ≡ k.block_height
  pub style : q.style ≡ style_of k.style
  pub precincts : q.precincts.items ≡ map exponents_of (take k.precinct_count k.precincts)
  pub colour : q.colour ≡ is_set k.colour
  pub sop : q.sop ≡ is_set k.sop
  pub eph : q.eph ≡ is_set k.eph
  pub container : q.container ≡ container_of k.raw
