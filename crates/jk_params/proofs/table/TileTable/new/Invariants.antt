use Rattle.std.proofs.Common.{◌≡◌, ◌<◌}
use Rattle.std.specs.List.{AllByRecursion}
use Rattle.jk_params.specs.HeadersReading.{blank_tiles}
use Rattle.jk_params.specs.Tables.{tiles_in}
use Rattle.jk_params.proofs.table.TileTable.new.Given as goal

-- the tiles that were made are blank, and have the main header's coding
abbrev pub invariant-loop : goal.invariant-loop
invariant-loop l = (tiles_in l.all.items l.tiles.items ≡ blank_tiles l.counter l.fn.cod l.fn.codings) × AllByRecursion (λ e. e.coding < 1) l.tiles.items
