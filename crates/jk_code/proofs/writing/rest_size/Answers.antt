use Rattle.std.proofs.Common.{◌≡◌, length, ap, ◌∙◌, arith}
use Rattle.std.proofs.lemmas.Result.{err_from_is_err_and}
use Rattle.jk_marks.specs.Siz.{tile_count}
use Rattle.jk_params.specs.Profile.{siz_of}
use Rattle.jk_tile.specs.encoding.PacketsWritten.{tile_text}
use Rattle.jk_code.specs.Beginnings.{parts_upto}
use Rattle.jk_code.specs.Contents.{HasTiles}
use Rattle.jk_code.proofs.BeginningLaws.{long_any, parts_longer, fits_said, fits_more, fits_from}
use Rattle.jk_code.proofs.writing.rest_size.Goals as goal

pub content-requires : goal.content-requires
content-requires g c =
    let p = c.requires.some.0 in
    let told : HasTiles g.T.TileContents.tells c.args.source.now c.args.tiles.now p = c.requires.some.1 in
    let tiles = c.count_tiles-number-end.ensures.value p told.source in
    record { number = (p, c.args.source.now.parameters.now, told.told, omega (arith, c.loop-number-test.true, tiles)) }

pub size-requires : goal.size-requires
size-requires g c =
    let p = c.requires.some.0 in
    let q = c.args.source.now.parameters.now in
    let told : HasTiles g.T.TileContents.tells c.args.source.now c.args.tiles.now p = c.requires.some.1 in
    record { some = (tile_text p q c.loop-number.number, c.in_ok-content.ensures.value p q told.told) }

pub loop-number-preserved : goal.loop-number-preserved
loop-number-preserved g c =
    let q = c.args.source.now.parameters.now in
    let t = c.loop-number.number in
    let inside = c.loop-number.invariant in
    let short = c.in_ok-head.ensures.fits in
    record {
      size = λ p told.
          (let told_size = c.in_ok-bytes.ensures.size (tile_text p q t) (c.in_ok-content.ensures.value p q told.told) in
          let before = inside.size p told in
          omega (arith, before, parts_longer p q t, told_size, short, c.in_ok-head.ensures.size));
      small = omega (arith, inside.small, short, c.in_ok-head.ensures.size);
      fit = λ p told.
          (let told_size = c.in_ok-bytes.ensures.size (tile_text p q t) (c.in_ok-content.ensures.value p q told.told) in
          fits_more p q t (inside.fit p told) (fits_said p q t (omega (arith, short, told_size))));
    }

pub returns-in_err-head-clause-err : goal.returns-in_err-head-clause-err
returns-in_err-head-clause-err g c =
    let q = c.args.source.now.parameters.now in
    let t = c.loop-number.number in
    let same = err_from_is_err_and c.from_residual-in_err-head.result c.from_residual-in_err-head.ensures.1 in
    rw (same.1, same.2)
    (λ p told.
    (let tiles = c.count_tiles-number-end.ensures.value p told.source in
    let told_size = c.in_ok-bytes.ensures.size (tile_text p q t) (c.in_ok-content.ensures.value p q told.told) in
    long_any p q t c.in_err-head.field-0.0 c.in_ok-bytes.bytes (omega (arith, c.loop-number-test.true, tiles)) (omega (arith, told_size)) c.in_err-head.ensures.err))

pub returns-clause-size : goal.returns-clause-size
returns-clause-size g c p told =
    let tiles = c.count_tiles-number-end.ensures.value p told.source in
    let some = c.count_tiles-number-end.ensures.some in
    let all : c.loop-number.number ≡ tile_count (siz_of p c.args.source.now.parameters.now) = omega (arith, some, c.loop-number-test.false, c.loop-number.auto.number-end, tiles) in
    c.loop-number.invariant.size p told ∙ ap (λ n. length (parts_upto p c.args.source.now.parameters.now n)) all

pub returns-clause-fits : goal.returns-clause-fits
returns-clause-fits g c p told first =
    let q = c.args.source.now.parameters.now in
    let tiles = c.count_tiles-number-end.ensures.value p told.source in
    let some = c.count_tiles-number-end.ensures.some in
    let all : c.loop-number.number ≡ tile_count (siz_of p q) = omega (arith, some, c.loop-number-test.false, c.loop-number.auto.number-end, tiles) in
    fits_from p q (tile_count (siz_of p q)) (λ t low lt. c.loop-number.invariant.fit p told t low (omega (arith, lt, all))) first
