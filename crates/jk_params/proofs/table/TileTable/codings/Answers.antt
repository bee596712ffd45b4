use Rattle.std.proofs.Common.{◌≡◌, ◌<◌, List, length, sym, ap, ◌∙◌, arith}
use Rattle.jk_params.specs.declared.table.TileCoding.{TileCoding}
use Rattle.jk_params.specs.Headers.{TileFields, tile_in}
use Rattle.jk_params.specs.Tables.{tiles_in}
use Rattle.jk_params.proofs.TableLaws.{tiles_length, entry_fields, coding_read, each_read}
use Rattle.jk_params.proofs.table.TileTable.codings.Goals as goal

pub index-requires : goal.index-requires
index-requires c =
    let t = c.self.inside in
    let size : length (tiles_in t.codings.items t.tiles.items) ≡ length c.args.self.now = ap (λ (fs : List TileFields). length fs) c.self.view_is in
    let within : c.args.tile < length t.tiles.items = omega (arith, size, tiles_length t.codings.items t.tiles.items, c.requires) in
    omega (arith, within)

pub index-requires-2 : goal.index-requires-2
index-requires-2 c =
    let t = c.self.inside in
    let size : length (tiles_in t.codings.items t.tiles.items) ≡ length c.args.self.now = ap (λ (fs : List TileFields). length fs) c.self.view_is in
    let within : c.args.tile < length t.tiles.items = omega (arith, size, tiles_length t.codings.items t.tiles.items, c.requires) in
    let below = each_read (length t.codings.items) t.tiles.items c.args.tile c.index.result.now c.self.invariant.each within c.index.ensures in
    omega (arith, below)

pub returns : goal.returns
returns c =
    let t = c.self.inside in
    let size : length (tiles_in t.codings.items t.tiles.items) ≡ length c.args.self.now = ap (λ (fs : List TileFields). length fs) c.self.view_is in
    let within : c.args.tile < length t.tiles.items = omega (arith, size, tiles_length t.codings.items t.tiles.items, c.requires) in
    let e = c.index.result.now in
    let fields = entry_fields t.codings.items t.tiles.items c.args.tile e within c.index.ensures in
    let below = each_read (length t.codings.items) t.tiles.items c.args.tile e c.self.invariant.each within c.index.ensures in
    let coding = coding_read t.codings.items e.coding c.index-2.result.now below c.index-2.ensures in
    sym (ap (λ (fs : List TileFields). (tile_in fs c.args.tile).codings) (sym c.self.view_is) ∙ ap (λ (f : TileFields). f.codings) fields ∙ ap (λ (k : TileCoding). k.codings) coding)
