use Rattle.std.proofs.Common.{◌≡◌, [], ap, sym, ◌∙◌, arith}
use Rattle.std.proofs.lemmas.List.{append-nil}
use Rattle.std.proofs.lemmas.Result.{err_from_is_err_and}
use Rattle.jk_marks.specs.Siz.{tile_count}
use Rattle.jk_params.specs.Profile.{siz_of}
use Rattle.jk_window.specs.Views.{holds_below}
use Rattle.jk_window.proofs.Laws.{below_none, below_more}
use Rattle.jk_code.specs.Written.{part_fits}
use Rattle.jk_code.specs.Beginnings.{parts_upto}
use Rattle.jk_code.specs.Contents.{HasTiles}
use Rattle.jk_code.proofs.SendingLaws.{rest_more, rest_stopped}
use Rattle.jk_code.proofs.writing.put_rest.Goals as goal

pub loop-number-init : goal.loop-number-init
loop-number-init g c =
    let q = c.args.source.now.parameters.now in
    record {
      written = λ p told. ([], g.met.W.TextSink.none c.args.writer.now, append-nil (parts_upto p q 1));
      fit = λ p told first. below_more (part_fits p q) 0 (below_none (part_fits p q)) first;
    }

pub put_tile-requires : goal.put_tile-requires
put_tile-requires g c =
    let p = c.requires.some.0 in
    let told : HasTiles g.T.TileContents.tells c.args.source.now c.args.tiles.now p = c.requires.some.1 in
    let tiles = c.count_tiles-number-end.ensures.value p told.source in
    record { number = (p, told, omega (arith, c.loop-number-test.true, tiles)) }

pub returns-in_err-put_tile : goal.returns-in_err-put_tile
returns-in_err-put_tile g c =
    let q = c.args.source.now.parameters.now in
    let t = c.loop-number.number in
    let same = err_from_is_err_and c.from_residual.result c.from_residual.ensures.1 in
    rw (same.1, same.2)
    (λ p told first.
    (let tiles = c.count_tiles-number-end.ensures.value p told.source in
    rest_stopped g.W.TextSink.took g.W.TextSink.tells (record { none = g.met.W.TextSink.none; joined = g.met.W.TextSink.joined }) p q c.args.writer.now c.loop-number.writer c.put_tile.new.writer t c.in_err-put_tile.field-0.0
    (omega (arith, c.loop-number.auto.number)) (omega (arith, c.loop-number-test.true, tiles)) (c.loop-number.invariant.fit p told first) (c.loop-number.invariant.written p told) (c.in_err-put_tile.ensures p told)))

pub loop-number-preserved : goal.loop-number-preserved
loop-number-preserved g c =
    let q = c.args.source.now.parameters.now in
    let t = c.loop-number.number in
    record {
      written = λ p told. rest_more g.W.TextSink.took g.W.TextSink.tells (record { none = g.met.W.TextSink.none; joined = g.met.W.TextSink.joined }) p q c.args.writer.now c.loop-number.writer c.put_tile.new.writer t (c.loop-number.invariant.written p told) (c.in_ok-put_tile.ensures p told);
      fit = λ p told first. below_more (part_fits p q) t (c.loop-number.invariant.fit p told first) (c.in_ok-put_tile.ensures p told).2.0;
    }

pub returns : goal.returns
returns g c p told first =
    let q = c.args.source.now.parameters.now in
    let tiles = c.count_tiles-number-end.ensures.value p told.source in
    let some = c.count_tiles-number-end.ensures.some in
    let all : c.loop-number.number ≡ tile_count (siz_of p q) = omega (arith, some, c.loop-number-test.false, c.loop-number.auto.number-end, tiles) in
    let written = c.loop-number.invariant.written p told in
    (written.0, written.1, (ap (λ n. holds_below (part_fits p q) n) (sym all) ∙ c.loop-number.invariant.fit p told first, written.2 ∙ ap (λ n. parts_upto p q n) all))
