-- What the sub-bands of a tile need, whichever way its components are named.
use Rattle.std.proofs.Common.{◌≡◌, ℕ, ◌≤◌, length, ap, ◌∙◌, arith}
use Rattle.jk_math.specs.Picture.{Picture}
use Rattle.jk_math.specs.declared.rect.Rect.{Rect}
use Rattle.jk_geom.specs.Rectangles.{tile_area}
use Rattle.jk_params.specs.declared.parameters.Parameters.{Parameters}
use Rattle.jk_params.specs.Profile.{siz_of}
use Rattle.jk_tile.specs.encoding.Forward.{tile_value}
use Rattle.jk_tile.specs.encoding.Needs.{most, tile_need}
use Rattle.jk_tile.specs.encoding.Strips.{ComponentFrame}
use Rattle.jk_tile.specs.encoding.FallenTiles.{band_need, HasTileRoom}
use Rattle.jk_tile.specs.declared.encoding.fallen_tile.FallenTile.{FallenTile}

pub need_of_tile : (p : Picture) (q : Parameters) (t b n : ℕ) (s : ComponentFrame) → s.rect ≡ tile_area (siz_of p q) t → s.coding.levels ≡ q.levels → n ≡ length p.planes
    → most (λ c. band_need s (tile_value p q.colour c) b) n ≡ tile_need p q t b
need_of_tile p q t b n s rect levels count =
    ap (λ (a : Rect). most (λ c. band_need (record { rect = a; coding = s.coding; layers = s.layers }) (tile_value p q.colour c) b) n) rect
    ∙ ap (λ (l : ℕ). most (λ c. band_need (record { rect = tile_area (siz_of p q) t; coding = record s.coding { levels = l }; layers = s.layers }) (tile_value p q.colour c) b) n) levels
    ∙ ap (λ (k : ℕ). most (λ c. band_need (record { rect = tile_area (siz_of p q) t; coding = record s.coding { levels = q.levels }; layers = s.layers }) (tile_value p q.colour c) b) k) count

-- room for few bit-planes is room for more
pub room_rises : (s : ComponentFrame) (f g : ℕ → ℕ) (t : FallenTile) → ((b : ℕ) → f b ≤ g b) → HasTileRoom s f t → HasTileRoom s g t
room_rises s f g t rise room = record {
  each = λ c other lt b band less. (let bits = room.each c other lt b band less in let more = rise b in omega (arith, bits, more));
}
