-- A stripe of a picture.
use Rattle.std.specs.Prelude.{ℕ, ◌+◌}
use Rattle.jk_math.specs.Picture.{Picture}
use Rattle.jk_code.specs.Viewing.{picture_on}

-- rows y to z of a picture
abbrev pub rows_of : Picture → (y z : ℕ) → Picture
rows_of p y z = picture_on (record { x0 = p.x0; y0 = y; x1 = p.x0 + p.width; y1 = z }) p
