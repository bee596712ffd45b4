use Rattle.std.proofs.Common.{◌≡◌, ℕ, List, Ok, sym, ap, ◌∙◌}
use Rattle.std.proofs.lemmas.Result.{err_from_is_err_and}
use Rattle.jk_marks.specs.declared.coding.Coding.{Coding}
use Rattle.jk_marks.specs.declared.segments.Cod.{Cod}
use Rattle.jk_marks.specs.declared.main_header.Main.{Main}
use Rattle.jk_marks.specs.Siz.{tile_count}
use Rattle.jk_params.specs.Headers.{TileFields}
use Rattle.jk_params.specs.HeadersReading.{blank_tiles, main_fields_at}
use Rattle.jk_params.proofs.BlankLaws.{headers_due, headers_refused}
use Rattle.jk_params.proofs.walk.headers.Goals as goal

pub returns-in_err-read_tiles : goal.returns-in_err-read_tiles
returns-in_err-read_tiles c =
    let bytes = c.args.bytes.now in
    let main : Main = c.in_ok-main.main in
    let at = c.in_ok-main.at in
    let ks : List Coding = c.in_ok-main.codings in
    let m : (Main × ℕ) × List Coding = ((main, at), ks) in
    let read : main_fields_at bytes ≡ Ok m = sym c.in_ok-main.ensures.exact in
    let start : List TileFields = c.in_ok-tiles.tiles in
    let blank : start ≡ blank_tiles (tile_count main.siz) main.cod ks =
    c.in_ok-tiles.ensures ∙ ap (λ k. blank_tiles k c.copy.result ks) c.tile_count.ensures ∙ ap (λ (k : Cod). blank_tiles (tile_count main.siz) k ks) c.copy.ensures in
    let e = c.in_err-read_tiles.field-0.0 in
    let p = err_from_is_err_and c.from_residual-in_err-read_tiles.result c.from_residual-in_err-read_tiles.ensures.1 in
    rw (p.1, p.2) (headers_refused bytes m start e read blank c.in_err-read_tiles.ensures)

pub returns : goal.returns
returns c =
    let bytes = c.args.bytes.now in
    let main : Main = c.in_ok-main.main in
    let at = c.in_ok-main.at in
    let ks : List Coding = c.in_ok-main.codings in
    let m : (Main × ℕ) × List Coding = ((main, at), ks) in
    let read : main_fields_at bytes ≡ Ok m = sym c.in_ok-main.ensures.exact in
    let start : List TileFields = c.in_ok-tiles.tiles in
    let blank : start ≡ blank_tiles (tile_count main.siz) main.cod ks =
    c.in_ok-tiles.ensures ∙ ap (λ k. blank_tiles k c.copy.result ks) c.tile_count.ensures ∙ ap (λ (k : Cod). blank_tiles (tile_count main.siz) k ks) c.copy.ensures in
    headers_due bytes m start c.read_tiles.new.tiles read blank c.in_ok-read_tiles.ensures ∙ ap Ok (sym c.new-2.ensures)
