-- The packets of a tile from the tables of its precincts, wherever these come from.
use Rattle.std.specs.Prelude.{◌≡◌, ℕ, ◌<◌, List, length}
use Rattle.std.specs.List.{flat_map, range_with_len}
use Rattle.jk_math.specs.Picture.{Picture, IsPicture}
use Rattle.jk_marks.specs.Siz.{tile_count}
use Rattle.jk_geom.specs.Rectangles.{tile_area}
use Rattle.jk_packet.specs.Written.{Table}
use Rattle.jk_params.specs.declared.parameters.Parameters.{Parameters}
use Rattle.jk_params.specs.Profile.{siz_of, IsWrittenBy}
use Rattle.jk_wave.specs.Analysis.{analysed_bands}
use Rattle.jk_tile.specs.encoding.Forward.{tile_value}
use Rattle.jk_tile.specs.encoding.PacketsWritten.{written_coding}
use Rattle.jk_tile.specs.encoding.TileWritten.{WrittenBands}
use Rattle.jk_tile.specs.encoding.TileWriters.{component_lists}
use Rattle.jk_tile.specs.declared.encoding.written.TileOutline.{TileOutline}

-- component c of tile t: its sub-bands, and its coding with exponents
abbrev pub written_component : Picture → Parameters → (t c : ℕ) → WrittenBands
written_component p q t c = record {
  rect = tile_area (siz_of p q) t;
  coding = written_coding p q;
  layers = q.layers;
  bands = analysed_bands (tile_area (siz_of p q) t) q.levels (tile_value p q.colour c);
}

-- the tables of the precincts of tile t, one behind another: component by component, resolution by
-- resolution
abbrev pub tile_lists : Picture → Parameters → (t : ℕ) → List (List Table)
tile_lists p q t = flat_map (λ c. component_lists (written_component p q t c)) (range_with_len 0 (length p.planes))

-- These say of tile t of a picture all but its samples.
pub record IsOutlineOf (w : TileOutline) (p : Picture) (t : ℕ) : Type 0 where
  pub picture : IsPicture p
  pub profile : IsWrittenBy w.parameters.now p
  pub number : t < tile_count (siz_of p w.parameters.now)
  pub coding : w.coding.now ≡ written_coding p w.parameters.now
  pub rect : w.rect ≡ tile_area (siz_of p w.parameters.now) t
  pub components : w.components ≡ length p.planes
