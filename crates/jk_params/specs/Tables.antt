-- How the program keeps the fields of the tiles: the codings, and for each tile the number of its
-- coding among them.
use Rattle.std.specs.Prelude.{ℕ, ◌<◌, List, [], length, map, slice_index_or}
use Rattle.std.specs.List.{AllByRecursion}
use Rattle.jk_marks.specs.Codestream.{no_coding}
use Rattle.jk_params.specs.declared.table.TileCoding.{TileCoding}
use Rattle.jk_params.specs.declared.table.TileEntry.{TileEntry}
use Rattle.jk_params.specs.Headers.{TileFields}

-- coding number i
abbrev pub coding_in : List TileCoding → ℕ → TileCoding
coding_in codings i = slice_index_or codings i record { cod = no_coding; codings = [] }

-- the fields of a tile
abbrev pub fields_in : List TileCoding → TileEntry → TileFields
fields_in codings e =
    record {
      cod = (coding_in codings e.coding).cod;
      codings = (coding_in codings e.coding).codings;
      data_places = e.places.items;
    }

-- the fields of all tiles
unfoldable pub tiles_in : List TileCoding → List TileEntry → List TileFields
tiles_in codings tiles = map (fields_in codings) tiles

-- there is a coding, and each tile has one
pub record IsTable (codings : List TileCoding) (tiles : List TileEntry) : Type 0 where
  pub some : 0 < length codings
  pub each : AllByRecursion (λ e. e.coding < length codings) tiles
