-- The data of a tile that is written.
use Rattle.std.specs.Prelude.{◌≡◌, ℕ, List}
use Rattle.jk_math.specs.Lists.{lists_of}
use Rattle.jk_math.specs.Picture.{Picture}
use Rattle.jk_tile.specs.encoding.PacketsWritten.{tile_text}
use Rattle.jk_tile.specs.encoding.TilesFrom.{IsOutlineOf, tile_lists}
use Rattle.jk_code.specs.declared.tile_data.TabledTile.{TabledTile}
use Rattle.jk_code.specs.declared.tile_data.TileData.{TileData}
use Rattle.jk_code.specs.declared.tile_data.TileData.TheVariants.{Packets, Tables}

-- The tables are those of tile t of this picture.
pub record IsTabledOf (s : TabledTile) (p : Picture) (t : ℕ) : Type 0 where
  pub outline : IsOutlineOf s.outline p t
  pub tables : lists_of s.tables.now ≡ tile_lists p s.outline.parameters.now t

-- This text is these data: it is there, or it is the packets of a tile of which the tables are there.
abbrev pub IsDataText : TileData → List ℕ → Type 0
IsDataText (Packets v) text = v.items ≡ text
IsDataText (Tables s) text = (p : Picture) × (t : ℕ) × IsTabledOf s p t × (tile_text p s.outline.parameters.now t ≡ text)
