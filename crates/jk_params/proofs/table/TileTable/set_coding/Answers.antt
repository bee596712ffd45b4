use Rattle.std.proofs.Common.{◌≡◌, ◌+◌, ◌<◌, List, [], ◌∷◌, ◌++◌, length, set, sym, ap, subst, ◌∙◌, arith, length-append}
use Rattle.jk_params.specs.declared.table.TileCoding.{TileCoding}
use Rattle.jk_params.specs.declared.table.TileEntry.{TileEntry}
use Rattle.jk_params.specs.Headers.{TileFields, tile_in}
use Rattle.jk_params.specs.HeadersReading.{with_coding}
use Rattle.jk_params.specs.Tables.{coding_in, fields_in, tiles_in, IsTable}
use Rattle.jk_params.proofs.TableLaws.{tiles_length, tiles_set, tiles_kept, entry_fields, coding_last, each_more, each_set}
use Rattle.jk_params.proofs.table.TileTable.set_coding.Goals as goal

pub index_mut-requires : goal.index_mut-requires
index_mut-requires c =
    let t = c.self.inside in
    let size : length (tiles_in t.codings.items t.tiles.items) ≡ length c.args.self.now = ap (λ (fs : List TileFields). length fs) c.self.view_is in
    let within : c.args.tile < length t.tiles.items = omega (arith, size, tiles_length t.codings.items t.tiles.items, c.requires) in
    omega (arith, within)

pub invariant_of-self-2 : goal.invariant_of-self-2
invariant_of-self-2 c =
    let t = c.self.inside in
    let ks = t.codings.items in
    let es = t.tiles.items in
    let k : TileCoding = record { cod = c.args.cod; codings = c.args.codings } in
    let old = c.index_mut.result.now in
    let new : TileEntry = record { coding = c.len-coding.result; places = old.places } in
    let size : length (ks ++ k ∷ []) ≡ length ks + 1 = length-append ks (k ∷ []) in
    let all = each_set (length (ks ++ k ∷ [])) es c.args.tile new (each_more (length ks) (length (ks ++ k ∷ [])) es c.self.invariant.each (omega (arith, size))) (omega (arith, size, c.len-coding.ensures)) in
    let table : IsTable (ks ++ k ∷ []) (set es c.args.tile new) = record { some = omega (arith, size); each = all } in
    subst (λ (xs : List TileCoding). IsTable xs (set es c.args.tile new)) (sym c.in_ok-push.ensures.items) table

pub returns-clause-ok : goal.returns-clause-ok
returns-clause-ok c =
    let t = c.self.inside in
    let size : length (tiles_in t.codings.items t.tiles.items) ≡ length c.args.self.now = ap (λ (fs : List TileFields). length fs) c.self.view_is in
    let within : c.args.tile < length t.tiles.items = omega (arith, size, tiles_length t.codings.items t.tiles.items, c.requires) in
    let ks = t.codings.items in
    let es = t.tiles.items in
    let n = c.args.tile in
    let k : TileCoding = record { cod = c.args.cod; codings = c.args.codings } in
    let old = c.index_mut.result.now in
    let new : TileEntry = record { coding = c.len-coding.result; places = old.places } in
    let fields = entry_fields ks es n old within c.index_mut.ensures.value in
    let number : c.len-coding.result ≡ length ks = omega (arith, c.len-coding.ensures) in
    let last : coding_in (ks ++ k ∷ []) c.len-coding.result ≡ k = ap (coding_in (ks ++ k ∷ [])) number ∙ coding_last ks k in
    let more : fields_in (ks ++ k ∷ []) new ≡ with_coding (fields_in ks old) c.args.cod c.args.codings =
    ap (λ (x : TileCoding). record { cod = x.cod; codings = x.codings; data_places = old.places.items }) last in
    ap (λ (xs : List TileCoding). tiles_in xs (set es n new)) c.in_ok-push.ensures.items ∙ tiles_set (ks ++ k ∷ []) es n new
    ∙ ap (λ (fs : List TileFields). set fs n (fields_in (ks ++ k ∷ []) new)) (tiles_kept ks k es c.self.invariant.each)
    ∙ ap (λ (f : TileFields). set (tiles_in ks es) n f) (more ∙ ap (λ (f : TileFields). with_coding f c.args.cod c.args.codings) (sym fields))
    ∙ ap (λ (fs : List TileFields). set fs n (with_coding (tile_in fs n) c.args.cod c.args.codings)) c.self.view_is
