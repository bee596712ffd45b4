use Rattle.std.proofs.Common.{◌≡◌, ◌+◌, ◌<◌, ◌++◌, List, [], ◌∷◌, sym, ap, subst, ◌∙◌, arith, lit<}
use Rattle.std.specs.List.{AllByRecursion}
use Rattle.jk_params.specs.declared.table.TileCoding.{TileCoding}
use Rattle.jk_params.specs.declared.table.TileEntry.{TileEntry}
use Rattle.jk_params.specs.HeadersReading.{blank_tiles}
use Rattle.jk_params.specs.Tables.{coding_in, tiles_in, IsTable}
use Rattle.jk_params.proofs.TableLaws.{tiles_is, blank_more, each_push}
use Rattle.jk_params.proofs.table.TileTable.new.Goals as goal

pub loop-init : goal.loop-init
loop-init c =
    let ks = c.push.new.self.items in
    subst (λ (es : List TileEntry). (tiles_in ks es ≡ blank_tiles 0 c.args.cod c.args.codings) × AllByRecursion (λ e. e.coding < 1) es) (sym c.new-tiles.ensures.items) (tiles_is ks [], tt)

pub loop-preserved : goal.loop-preserved
loop-preserved c =
    let k : TileCoding = record { cod = c.args.cod; codings = c.args.codings } in
    let ks = c.push.new.self.items in
    let es = c.loop.tiles.items in
    let e : TileEntry = record { coding = 0; places = c.new.result } in
    let one : ks ≡ k ∷ [] = c.in_ok-push.ensures.items ∙ ap (λ (xs : List TileCoding). xs ++ k ∷ []) c.new-all.ensures.items in
    let coding : coding_in ks 0 ≡ k = ap (λ (xs : List TileCoding). coding_in xs 0) one in
    let more = blank_more c.args.cod c.args.codings ks es e c.loop.counter coding c.new.ensures.items c.loop.invariant.0 in
    subst (λ (xs : List TileEntry). (tiles_in ks xs ≡ blank_tiles (c.loop.counter + 1) c.args.cod c.args.codings) × AllByRecursion (λ x. x.coding < 1) xs) (sym c.in_ok-push-2.ensures.items)
    (more, each_push 1 es e c.loop.invariant.1 (lit< tt))

pub invariant_of-result : goal.invariant_of-result
invariant_of-result c =
    let k : TileCoding = record { cod = c.args.cod; codings = c.args.codings } in
    let one : c.push.new.self.items ≡ k ∷ [] = c.in_ok-push.ensures.items ∙ ap (λ (xs : List TileCoding). xs ++ k ∷ []) c.new-all.ensures.items in
    subst (λ (xs : List TileCoding). IsTable xs c.loop.tiles.items) (sym one) (record { some = lit< tt; each = c.loop.invariant.1 })

pub returns : goal.returns
returns c =
    let all : c.loop.counter ≡ c.args.count = omega (arith, c.loop-test.false, c.loop.auto.counter-end) in
    c.loop.invariant.0 ∙ ap (λ n. blank_tiles n c.args.cod c.args.codings) all
