-- The image and tile size segment (T.800 A.5.1).
use Rattle.std.specs.Prelude.{ℕ, ◌+◌, ◌-◌, ◌*◌, ◌/◌, ◌<◌, ◌≤◌, ◌^◌, List, [], ◌∷◌, ◌++◌, replicate, if◌then◌else◌}
use Rattle.std.specs.List.{concat}
use Rattle.byteorder.specs.Endian.{big_bytes}
use Rattle.jk_marks.specs.declared.siz.Siz.{Siz}
use Rattle.jk_marks.specs.Markers.{siz, marker_text}

-- how many tiles stand side by side, and one above the other (B.3, equation B-5)
abbrev pub tiles_across : Siz → ℕ
tiles_across s = (s.x1 - s.tile_x0 + s.tile_width - 1) / s.tile_width

abbrev pub tiles_down : Siz → ℕ
tiles_down s = (s.y1 - s.tile_y0 + s.tile_height - 1) / s.tile_height

abbrev pub tile_count : Siz → ℕ
tile_count s = tiles_across s * tiles_down s

-- Ssiz: the depth less one, and the sign in the top bit
abbrev pub ssiz : Siz → ℕ
ssiz s = s.depth - 1 + (if s.signed then 128 else 0)

-- Ssiz, XRsiz and YRsiz of one component, which isn't subsampled
abbrev pub component_text : Siz → List ℕ
component_text s = ssiz s ∷ 1 ∷ 1 ∷ []

-- Lsiz
abbrev pub siz_length : Siz → ℕ
siz_length s = 38 + 3 * s.components

-- Rsiz to YTOsiz
abbrev pub grid_text : Siz → List ℕ
grid_text s =
    big_bytes 2 s.rsiz
    ++ (big_bytes 4 s.x1 ++ (big_bytes 4 s.y1 ++ (big_bytes 4 s.x0 ++ (big_bytes 4 s.y0
    ++ (big_bytes 4 s.tile_width ++ (big_bytes 4 s.tile_height ++ (big_bytes 4 s.tile_x0 ++ big_bytes 4 s.tile_y0)))))))

unfoldable pub siz_text : Siz → List ℕ
siz_text s =
    marker_text siz
    ++ (big_bytes 2 (siz_length s)
    ++ (grid_text s ++ (big_bytes 2 s.components ++ concat (replicate s.components (component_text s)))))

-- what T.800 and the profile ask of the fields
pub record IsSiz (s : Siz) : Type 0 where
  pub part_one : s.rsiz < 16384
  pub wide : s.x0 < s.x1
  pub high : s.y0 < s.y1
  pub right : s.x1 < 2 ^ 31
  pub lower : s.y1 < 2 ^ 31
  pub area : (s.x1 - s.x0) * (s.y1 - s.y0) ≤ 2 ^ 28
  pub tile_wide : 0 < s.tile_width
  pub tile_high : 0 < s.tile_height
  pub width_fits : s.tile_width < 2 ^ 32
  pub height_fits : s.tile_height < 2 ^ 32
  pub tile_left : s.tile_x0 ≤ s.x0
  pub tile_right : s.x0 < s.tile_x0 + s.tile_width
  pub tile_upper : s.tile_y0 ≤ s.y0
  pub tile_lower : s.y0 < s.tile_y0 + s.tile_height
  pub tiles : tile_count s ≤ 65535
  pub some_components : 1 ≤ s.components
  pub few_components : s.components ≤ 4
  pub some_bits : 1 ≤ s.depth
  pub few_bits : s.depth ≤ 16
