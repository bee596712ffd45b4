-- A file of which all is read but its code-blocks.
use Rattle.std.specs.Prelude.{◌≡◌, ℕ, ◌≤◌, List, length, slice_range, Ok}
use Rattle.jk_math.specs.Answer.{◌>>=◌}
use Rattle.jk_marks.specs.Siz.{tile_count}
use Rattle.jk_code.specs.MeaningReading.{meaning_at, tiles_tested}
use Rattle.jk_code.specs.Rows.{picture_of}
use Rattle.jk_code.specs.Sources.{ImageSource, IsImageSource}
use Rattle.jk_code.specs.declared.reading.ReadImage.{ReadImage}

-- what is decoded of it
abbrev pub source_of : (bytes : List ℕ) → ReadImage → ImageSource
source_of bytes r = record {
  headers = r.headers;
  bytes = slice_range bytes r.start r.end;
  packets = r.packets.items;
  reduce = r.reduce;
  area = r.area;
}

-- It was read of the bytes of a file at reduction d: what they mean is the picture of what is decoded,
-- or the first fault of its code-blocks.
pub record IsReadImage (bytes : List ℕ) (d : ℕ) (r : ReadImage) : Type 0 where
  pub order : r.start ≤ r.end
  pub within : r.end ≤ length bytes
  pub source : IsImageSource (source_of bytes r)
  pub means : meaning_at bytes d ≡ (let s = source_of bytes r in
      tiles_tested s.bytes s.headers s.reduce (tile_count s.headers.siz) >>= (λ _. Ok (picture_of s)))
