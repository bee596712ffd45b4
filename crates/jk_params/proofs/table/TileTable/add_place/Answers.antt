use Rattle.std.proofs.Common.{◌≡◌, ◌<◌, ℕ, List, length, set, sym, ap, ◌∙◌, arith}
use Rattle.jk_params.specs.declared.table.TileEntry.{TileEntry}
use Rattle.jk_params.specs.Headers.{TileFields, tile_in}
use Rattle.jk_params.specs.HeadersReading.{with_place}
use Rattle.jk_params.specs.Tables.{fields_in, tiles_in}
use Rattle.jk_params.proofs.TableLaws.{tiles_length, tiles_set, entry_fields}
use Rattle.jk_params.proofs.table.TileTable.add_place.Goals as goal

pub index_mut-requires : goal.index_mut-requires
index_mut-requires c =
    let t = c.self.inside in
    let size : length (tiles_in t.codings.items t.tiles.items) ≡ length c.args.self.now = ap (λ (fs : List TileFields). length fs) c.self.view_is in
    let within : c.args.tile < length t.tiles.items = omega (arith, size, tiles_length t.codings.items t.tiles.items, c.requires) in
    omega (arith, within)

pub returns-clause-ok : goal.returns-clause-ok
returns-clause-ok c =
    let t = c.self.inside in
    let size : length (tiles_in t.codings.items t.tiles.items) ≡ length c.args.self.now = ap (λ (fs : List TileFields). length fs) c.self.view_is in
    let within : c.args.tile < length t.tiles.items = omega (arith, size, tiles_length t.codings.items t.tiles.items, c.requires) in
    let ks = t.codings.items in
    let es = t.tiles.items in
    let n = c.args.tile in
    let old = c.index_mut.result.now in
    let new : TileEntry = record { coding = old.coding; places = c.push.new.self } in
    let fields = entry_fields ks es n old within c.index_mut.ensures.value in
    let more : fields_in ks new ≡ with_place (fields_in ks old) c.args.place =
    ap (λ (ps : List (ℕ × ℕ)). record { cod = (fields_in ks old).cod; codings = (fields_in ks old).codings; data_places = ps }) c.in_ok-push.ensures.items in
    tiles_set ks es n new ∙ ap (λ (f : TileFields). set (tiles_in ks es) n f) (more ∙ ap (λ (f : TileFields). with_place f c.args.place) (sym fields))
    ∙ ap (λ (fs : List TileFields). set fs n (with_place (tile_in fs n) c.args.place)) c.self.view_is
