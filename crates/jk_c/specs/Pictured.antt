-- The picture of samples that lie pixel by pixel, and stripes of its rows.
use Rattle.std.specs.Prelude.{◌+◌, ◌-◌, ◌*◌, ℕ, ℤ, List, map, take, drop}
use Rattle.std.specs.List.{range_with_len}
use Rattle.jk_math.specs.Picture.{Picture}
use Rattle.jk_params.specs.declared.picture_frame.PictureFrame.{PictureFrame}
use Rattle.jk_c.specs.Signed.{signed_plane_in}

-- the picture with this frame that has these samples, pixel by pixel
abbrev pub pictured : PictureFrame → List ℤ → Picture
pictured f samples = record {
  x0 = f.x0;
  y0 = f.y0;
  width = f.width;
  height = f.height;
  depth = f.depth;
  signed = f.signed;
  planes = map (signed_plane_in samples (f.width * f.height) f.components) (range_with_len 0 f.components);
}

-- the samples of rows y up to z, of pixels of so many components in rows of so many
abbrev pub rows_cut : (width components y z : ℕ) → List ℤ → List ℤ
rows_cut width components y z samples = take ((z - y) * (width * components)) (drop (y * (width * components)) samples)

-- rows y up to z of that picture, counted from its first one
abbrev pub stripe_in : PictureFrame → List ℤ → (y z : ℕ) → Picture
stripe_in f samples y z =
    pictured (record f { y0 = f.y0 + y; height = z - y }) (rows_cut f.width f.components y z samples)
