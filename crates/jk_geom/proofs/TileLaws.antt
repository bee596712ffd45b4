-- Each place of an image, also of a reduced one, is in one tile.
use Rattle.std.proofs.Common.{◌≡◌, ℕ, ◌+◌, ◌-◌, ◌*◌, ◌/◌, ◌%◌, ◌^◌, ◌<◌, ◌≤◌, max, min, refl, ap, sym, ◌∙◌, subst, arith}
use Rattle.std.proofs.lemmas.Nat.{mul-add-lt, div-mul-add, mod-mul-add}
use Rattle.jk_math.specs.declared.rect.Rect.{Rect}
use Rattle.jk_marks.specs.declared.siz.Siz.{Siz}
use Rattle.jk_marks.specs.Siz.{IsSiz, tiles_across, tiles_down, tile_count}
use Rattle.jk_geom.specs.Rectangles.{IsWithin, tile_area}
use Rattle.jk_geom.specs.Partitions.{image_area, reduced_area, TileHolds, tile_of}
use Rattle.jk_geom.proofs.Cells.{cell_from, cell_to, cell_one, above_ceil, raster_one}
use Rattle.jk_geom.proofs.Weaving.{reduced_to, reduced_from}

-- tile t by its column and row
abbrev pub tile_at : Siz → (p q : ℕ) → Rect
tile_at s p q = record {
  x0 = max (s.tile_x0 + p * s.tile_width) s.x0;
  y0 = max (s.tile_y0 + q * s.tile_height) s.y0;
  x1 = min (s.tile_x0 + (p + 1) * s.tile_width) s.x1;
  y1 = min (s.tile_y0 + (q + 1) * s.tile_height) s.y1;
}

tile_is : (s : Siz) (t : ℕ) → tile_area s t ≡ tile_at s (t % tiles_across s) (t / tiles_across s)
unfolding tile_area
tile_is s t = refl

-- a place of a tile is in its column and row
pub record IsTilePlace (s : Siz) (t x y : ℕ) : Type 0 where
  pub column : t % tiles_across s ≡ (x - s.tile_x0) / s.tile_width
  pub row : t / tiles_across s ≡ (y - s.tile_y0) / s.tile_height
  pub image : IsWithin (image_area s) x y

pub tile_place : (s : Siz) (t x y : ℕ) → IsSiz s → IsWithin (tile_area s t) x y → IsTilePlace s t x y
tile_place s t x y siz h =
    let p = t % tiles_across s in
    let q = t / tiles_across s in
    let is : IsWithin (tile_at s p q) x y = subst (λ (a : Rect). IsWithin a x y) (tile_is s t) h in
    let l = is.left in
    let r = is.right in
    let u = is.upper in
    let w = is.lower in
    record {
      column = cell_one p (x - s.tile_x0) s.tile_width siz.tile_wide (omega arith) (omega arith);
      row = cell_one q (y - s.tile_y0) s.tile_height siz.tile_high (omega arith) (omega arith);
      image = record { left = omega arith; right = omega arith; upper = omega arith; lower = omega arith };
    }

pub tile_found : (s : Siz) (x y : ℕ) → IsSiz s → IsWithin (image_area s) x y → (tile_of s x y < tile_count s) × IsWithin (tile_area s (tile_of s x y)) x y
tile_found s x y siz is =
    let p = (x - s.tile_x0) / s.tile_width in
    let q = (y - s.tile_y0) / s.tile_height in
    let n = tiles_across s in
    let il = is.left in
    let ir = is.right in
    let iu = is.upper in
    let iw = is.lower in
    let left = siz.tile_left in
    let upper = siz.tile_upper in
    let px : p * s.tile_width ≤ x - s.tile_x0 = cell_from (x - s.tile_x0) s.tile_width in
    let py : q * s.tile_height ≤ y - s.tile_y0 = cell_from (y - s.tile_y0) s.tile_height in
    let qx : x - s.tile_x0 < (p + 1) * s.tile_width = cell_to (x - s.tile_x0) s.tile_width siz.tile_wide in
    let qy : y - s.tile_y0 < (q + 1) * s.tile_height = cell_to (y - s.tile_y0) s.tile_height siz.tile_high in
    let few_x : p < tiles_across s = above_ceil (s.x1 - s.tile_x0) s.tile_width p siz.tile_wide (omega arith) in
    let few_y : q < tiles_down s = above_ceil (s.y1 - s.tile_y0) s.tile_height q siz.tile_high (omega arith) in
    let within : IsWithin (tile_at s p q) x y = record { left = omega arith; right = omega arith; upper = omega arith; lower = omega arith } in
    let column : tile_of s x y % n ≡ p = mod-mul-add q n p few_x in
    let row : tile_of s x y / n ≡ q = div-mul-add q n p few_x in
    let place : tile_area s (tile_of s x y) ≡ tile_at s p q = tile_is s (tile_of s x y) ∙ (ap (λ c. tile_at s c (tile_of s x y / n)) column ∙ ap (λ r. tile_at s p r) row) in
    (mul-add-lt q n p (tiles_down s) few_y few_x, subst (λ (a : Rect). IsWithin a x y) (sym place) within)

-- there is a tile
pub some_tile : (s : Siz) → IsSiz s → 0 < tile_count s
some_tile s is =
    let found = tile_found s s.x0 s.y0 is (record { left = omega arith; right = is.wide; upper = omega arith; lower = is.high }) in
    omega (arith, found.0)

-- the laws
pub tile_covers : (s : Siz) (d x y : ℕ) → IsSiz s → IsWithin (reduced_area (image_area s) d) x y → (t : ℕ) × TileHolds s d t x y
tile_covers s d x y siz is =
    let found = tile_found s (x * 2 ^ d) (y * 2 ^ d) siz (reduced_to (image_area s) d x y is) in
    (tile_of s (x * 2 ^ d) (y * 2 ^ d), record { tile = found.0; place = reduced_from (tile_area s (tile_of s (x * 2 ^ d) (y * 2 ^ d))) d x y found.1 })

pub tile_one : (s : Siz) (d t u x y : ℕ) → IsSiz s → TileHolds s d t x y → TileHolds s d u x y → t ≡ u
tile_one s d t u x y siz a b =
    let first = tile_place s t (x * 2 ^ d) (y * 2 ^ d) siz (reduced_to (tile_area s t) d x y a.place) in
    let second = tile_place s u (x * 2 ^ d) (y * 2 ^ d) siz (reduced_to (tile_area s u) d x y b.place) in
    raster_one t u (tiles_across s) (first.column ∙ sym second.column) (first.row ∙ sym second.row)

pub tile_inside : (s : Siz) (d t x y : ℕ) → IsSiz s → TileHolds s d t x y → IsWithin (reduced_area (image_area s) d) x y
tile_inside s d t x y siz a =
    reduced_from (image_area s) d x y (tile_place s t (x * 2 ^ d) (y * 2 ^ d) siz (reduced_to (tile_area s t) d x y a.place)).image
