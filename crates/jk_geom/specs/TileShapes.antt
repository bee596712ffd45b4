-- What the packets of a tile depend on.
use Rattle.std.specs.Prelude.{ℕ, ◌<◌, ◌≤◌, ◌^◌, List, [], length, slice_index_or}
use Rattle.jk_math.specs.Styles.{plain_style}
use Rattle.jk_marks.specs.declared.coding.Coding.{Coding}
use Rattle.jk_marks.specs.Coding.{IsCoding}
use Rattle.jk_geom.specs.declared.shape.TileShape.{TileShape}
use Rattle.jk_geom.specs.Rectangles.{IsArea}

-- stands where a component isn't
abbrev pub no_coding : Coding
no_coding = record { levels = 0; xcb = 2; ycb = 2; precincts = []; style = plain_style; guard = 0; exponents = [] }

-- the coding of component c
abbrev pub coding_of : List Coding → ℕ → Coding
coding_of codings c = slice_index_or codings c no_coding

-- a coding for each of one to four components
pub record AreCodings (codings : List Coding) : Type 0 where
  pub some : 1 ≤ length codings
  pub few : length codings ≤ 4
  pub each : (c : ℕ) → c < length codings → IsCoding (coding_of codings c)

-- a tile that has a layer
pub record IsTileShape (s : TileShape) : Type 0 where
  pub area : IsArea s.rect
  pub some_layers : 1 ≤ s.layers
  pub few_layers : s.layers < 2 ^ 16
  pub codings : AreCodings s.codings
