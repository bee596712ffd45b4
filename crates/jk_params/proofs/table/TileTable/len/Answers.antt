use Rattle.std.proofs.Common.{◌≡◌, List, length, ap, arith}
use Rattle.jk_params.specs.Headers.{TileFields}
use Rattle.jk_params.specs.Tables.{tiles_in}
use Rattle.jk_params.proofs.TableLaws.{tiles_length}
use Rattle.jk_params.proofs.table.TileTable.len.Goals as goal

pub returns : goal.returns
returns c =
    let t = c.self.inside in
    let size : length (tiles_in t.codings.items t.tiles.items) ≡ length c.args.self.now = ap (λ (fs : List TileFields). length fs) c.self.view_is in
    omega (arith, size, tiles_length t.codings.items t.tiles.items, c.len.ensures)
