-- Precincts that a window was asked of.
use Rattle.std.specs.Prelude.{◌≡◌, ℕ, Bool, not, ◌&&◌}
use Rattle.jk_geom.specs.TileShapes.{coding_of}
use Rattle.jk_geom.specs.Rectangles.{is_empty}
use Rattle.jk_window.specs.declared.contents.TileCut.{TileCut}
use Rattle.jk_window.specs.declared.contents.Judged.{Judged}
use Rattle.jk_window.specs.Needs.{needs}

-- whether the window needs a precinct of a tile
abbrev pub is_needed_in : TileCut → (c r k : ℕ) → Bool
is_needed_in t c r k = not (is_empty t.top) && needs t.shape.now.rect (coding_of t.shape.now.codings c) t.top t.reduce r k

-- What was found of a precinct is so.
abbrev pub IsJudged : TileCut → Judged → Type 0
IsJudged t j = j.is_needed ≡ is_needed_in t j.component j.resolution j.precinct
