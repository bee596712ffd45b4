use Rattle.std.proofs.Common.{◌≡◌}
use Rattle.jk_marks.specs.Siz.{tile_count}
use Rattle.jk_window.specs.Planning.{ArePlansUpto}
use Rattle.jk_window.proofs.tiles.plan_tiles.Given as goal

abbrev pub invariant-loop-tile : goal.invariant-loop-tile
invariant-loop-tile l = (l.count ≡ tile_count l.index.headers.siz) × ArePlansUpto l.index l.window l.view l.tile l.all.items
