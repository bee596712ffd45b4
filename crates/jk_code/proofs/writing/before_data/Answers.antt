use Rattle.std.proofs.Common.{◌≡◌, ℕ, ◌+◌, ◌<◌, ◌^◌, List, ◌++◌, length, ap, sym, ◌∙◌, arith}
use Rattle.std.proofs.lemmas.Result.{err_from_is_err_and}
use Rattle.jk_marks.specs.declared.main_header.Main.{Main}
use Rattle.jk_marks.specs.Codestream.{main_text, part_text, codestream_text, segments_of}
use Rattle.jk_params.specs.declared.parameters.Container.TheVariants.{Jp2}
use Rattle.jk_params.specs.Profile.{siz_of}
use Rattle.jk_geom.proofs.Laws.{some_tile}
use Rattle.jk_tile.specs.encoding.PacketsWritten.{tile_text}
use Rattle.jk_code.specs.Written.{main_for, part_for, tree_for}
use Rattle.jk_code.proofs.BeginningLaws.{ahead_any, ahead_first, all_told, size_said, start_joined, fits_said, file_means}
use Rattle.jk_code.proofs.writing.before_data.Goals as goal

pub main_header-requires : goal.main_header-requires
main_header-requires g c = record { some = (c.requires.some.0, c.requires.some.1.source) }

pub front-requires-clause-some : goal.front-requires-clause-some
front-requires-clause-some g c = (c.requires.some.0, c.requires.some.1.source)

pub returns-in_err-rest-clause-err : goal.returns-in_err-rest-clause-err
returns-in_err-rest-clause-err g c =
    let same = err_from_is_err_and c.from_residual.result c.from_residual.ensures.1 in
    rw (same.1, same.2) (λ p told. ahead_any p c.args.source.now.parameters.now c.in_err-rest.field-0.0 (c.in_err-rest.ensures.err p told))

pub size-requires : goal.size-requires
size-requires g c =
    let p = c.requires.some.0 in
    record { some = (tile_text p c.args.source.now.parameters.now 0, c.requires.first p c.requires.some.1) }

pub returns-in_err-head-clause-err : goal.returns-in_err-head-clause-err
returns-in_err-head-clause-err g c =
    let q = c.args.source.now.parameters.now in
    let same = err_from_is_err_and c.from_residual-in_err-head.result c.from_residual-in_err-head.ensures.1 in
    rw (same.1, same.2)
    (λ p told.
    (let told_size = c.in_ok-bytes.ensures.size (tile_text p q 0) (c.requires.first p told) in
    ahead_first p q c.in_err-head.field-0.0 c.in_ok-bytes.bytes (some_tile (siz_of p q) told.source.written.siz) (omega (arith, told_size)) c.in_err-head.ensures.err))

pub returns-clause-text : goal.returns-clause-text
returns-clause-text g c p told =
    let q = c.args.source.now.parameters.now in
    let content = tile_text p q 0 in
    let head_is : c.main_header.result ≡ main_for p q = c.main_header.ensures.value p told.source in
    let made : c.write_main.new.out.items ≡ main_text (siz_of p q) (segments_of (main_for p q)) =
    c.in_ok-write_main.ensures.ok ∙ ap (λ (xs : List ℕ). xs ++ main_text c.main_header.result.siz (segments_of c.main_header.result)) c.new-main.ensures.items
    ∙ ap (λ (x : Main). main_text x.siz (segments_of x)) head_is in
    let text = ap (λ (xs : List ℕ). length xs) made in
    let long : c.len-2.result ≡ length (main_text (siz_of p q) (segments_of (main_for p q))) = omega (arith, c.len-2.ensures, text) in
    let fourteen : c.len.result ≡ 14 = omega (arith, c.len.ensures, c.in_ok-head.ensures.size) in
    let same = all_told (length content) c.in_ok-bytes.bytes (c.in_ok-bytes.ensures.size content (c.requires.first p told)) c.in_ok-head.ensures.fits in
    let before = c.in_ok-before.before.items in
    let main = c.deref.result.now in
    let head = c.deref-2.result.now in
    let size = c.len-2.result + (c.len.result + c.in_ok-bytes.bytes) + c.in_ok-rest.rest + 2 in
    let part : head ++ content ≡ part_text (part_for p q 0) = ap (λ (xs : List ℕ). xs ++ content) c.deref-2.ensures.value ∙ c.in_ok-head.ensures.text content same in
    ap (λ (xs : List ℕ). xs ++ content) (c.in_ok-extend_from_slice-2.ensures.items ∙ ap (λ (xs : List ℕ). xs ++ head) c.in_ok-extend_from_slice.ensures.items)
    ∙ start_joined p q before main head content size (c.in_ok-before.ensures.value p told.source)
    (λ jp2. size_said p q c.len-2.result c.len.result c.in_ok-bytes.bytes c.in_ok-rest.rest long fourteen (sym same) (c.in_ok-rest.ensures.size p told jp2))
    (c.deref.ensures.value ∙ made) part

pub returns-clause-fits : goal.returns-clause-fits
returns-clause-fits g c p told =
    let q = c.args.source.now.parameters.now in
    let short = c.in_ok-head.ensures.fits in
    let told_size = c.in_ok-bytes.ensures.size (tile_text p q 0) (c.requires.first p told) in
    fits_said p q 0 (omega (arith, short, told_size))

pub returns-clause-all : goal.returns-clause-all
returns-clause-all g c p told jp2 =
    let q = c.args.source.now.parameters.now in
    let short = c.in_ok-head.ensures.fits in
    let told_size = c.in_ok-bytes.ensures.size (tile_text p q 0) (c.requires.first p told) in
    c.in_ok-rest.ensures.fits p told jp2 (fits_said p q 0 (omega (arith, short, told_size)))

pub returns-clause-means : goal.returns-clause-means
returns-clause-means g c p told = λ file e.
    (let q = c.args.source.now.parameters.now in
    let content = tile_text p q 0 in
    let head_is : c.main_header.result ≡ main_for p q = c.main_header.ensures.value p told.source in
    let made : c.write_main.new.out.items ≡ main_text (siz_of p q) (segments_of (main_for p q)) =
    c.in_ok-write_main.ensures.ok ∙ ap (λ (xs : List ℕ). xs ++ main_text c.main_header.result.siz (segments_of c.main_header.result)) c.new-main.ensures.items
    ∙ ap (λ (x : Main). main_text x.siz (segments_of x)) head_is in
    let text = ap (λ (xs : List ℕ). length xs) made in
    let long : c.len-2.result ≡ length (main_text (siz_of p q) (segments_of (main_for p q))) = omega (arith, c.len-2.ensures, text) in
    let fourteen : c.len.result ≡ 14 = omega (arith, c.len.ensures, c.in_ok-head.ensures.size) in
    let short = c.in_ok-head.ensures.fits in
    let same = all_told (length content) c.in_ok-bytes.bytes (c.in_ok-bytes.ensures.size content (c.requires.first p told)) short in
    let small : q.container ≡ Jp2 → 16 + length (codestream_text (tree_for p q)) < 2 ^ 64 = λ jp2.
    (let whole = size_said p q c.len-2.result c.len.result c.in_ok-bytes.bytes c.in_ok-rest.rest long fourteen (sym same) (c.in_ok-rest.ensures.size p told jp2) in
    omega (arith, whole, c.in_ok-rest.ensures.small, short)) in
    file_means p q file told.source.picture told.source.written small e)
