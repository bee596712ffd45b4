-- From the samples of a tile to what the wavelet takes: the level shift and the component transform
-- (T.800 G.1.1, G.2.1).
use Rattle.std.specs.Prelude.{ℕ, zero, suc, ◌+◌, ◌-◌, Bool, if◌then◌else◌, ℤ, ◌-ℤ◌}
use Rattle.jk_math.specs.declared.rect.Rect.{Rect}
use Rattle.jk_math.specs.Picture.{Picture, sample_at}
use Rattle.jk_rct.specs.Colour.{y0_of, y1_of, y2_of}
use Rattle.jk_tile.specs.Samples.{shift}

-- the rectangle of an image on the reference grid
abbrev pub picture_area : Picture → Rect
picture_area p = record { x0 = p.x0; y0 = p.y0; x1 = p.x0 + p.width; y1 = p.y0 + p.height }

-- the sample of a component at a place of the reference grid, less the level shift (G.1.1)
abbrev pub levelled : Picture → ℕ → ℕ → ℕ → ℤ
levelled p c x y = sample_at p c (x - p.x0) (y - p.y0) -ℤ shift p.depth p.signed

-- The forward component transform of the values of a pixel, by component (G.2.1). Components past
-- the third keep their values.
unfoldable pub coloured : (ℕ → ℤ) → ℕ → ℤ
coloured v zero = y0_of (v 0) (v 1) (v 2)
coloured v (suc zero) = y1_of (v 0) (v 1) (v 2)
coloured v (suc (suc zero)) = y2_of (v 0) (v 1) (v 2)
coloured v c = v c

-- the value of a component at a place, with the component transform where it is asked for
unfoldable pub tile_value : Picture → Bool → ℕ → ℕ → ℕ → ℤ
tile_value p colour c x y = if colour then coloured (λ i. levelled p i x y) c else levelled p c x y
