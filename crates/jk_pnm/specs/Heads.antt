-- The head of a PGM or PPM file, and rows of its raster by their own bytes.
use Rattle.std.specs.Prelude.{◌≡◌, ℕ, ◌+◌, ◌*◌, ◌^◌, ◌<◌, ◌≤◌, false}
use Rattle.jk_pnm.specs.declared.header.Header.{Header}
use Rattle.jk_pnm.specs.declared.rasters.RasterFrame.{RasterFrame}
use Rattle.jk_pnm.specs.Pnm.{components_of, sample_size}

-- What a header that was read holds to.
pub record IsHead (h : Header) : Type 0 where
  pub wide : 0 < h.width
  pub high : 0 < h.height
  pub area : h.width * h.height ≤ 2 ^ 28
  pub maxval : 2 ^ h.depth ≡ h.maxval + 1
  pub some_bits : 1 ≤ h.depth
  pub few_bits : h.depth ≤ 16

-- the frame of the picture that a header tells
abbrev pub frame_headed : Header → RasterFrame
frame_headed h = record {
  components = components_of h.colour;
  signed = false;
  width = h.width;
  height = h.height;
  depth = h.depth;
}

-- bytes of a row
abbrev pub row_bytes : Header → ℕ
row_bytes h = h.width * components_of h.colour * sample_size h.maxval

-- the header of so many rows
abbrev pub with_rows : Header → ℕ → Header
with_rows h rows = record h { height = rows }
