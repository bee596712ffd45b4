use Rattle.std.proofs.Common.{◌≡◌, ◌++◌, List, ℕ, ap, ◌∙◌}
use Rattle.std.proofs.lemmas.Result.{err_from_is_err_and}
use Rattle.jk_params.specs.Profile.{siz_of}
use Rattle.jk_geom.proofs.Laws.{some_tile}
use Rattle.jk_tile.specs.encoding.PacketsWritten.{tile_text}
use Rattle.jk_code.specs.Beginnings.{text_upto}
use Rattle.jk_code.proofs.SendingLaws.{left_refused, left_start, left_rest, left_end}
use Rattle.jk_code.proofs.writing.put_file.Goals as goal

pub put_start-requires : goal.put_start-requires
put_start-requires g c =
    let p = c.requires.some.0 in
    record { some = (tile_text p c.args.source.now.parameters.now 0, c.requires.first p c.requires.some.1) }

pub returns-in_err-before-clause-part : goal.returns-in_err-before-clause-part
returns-in_err-before-clause-part g c =
    let same = err_from_is_err_and c.from_residual.result c.from_residual.ensures.1 in
    rw (same.1, same.2)
    (λ p told profile. left_refused g.W.TextSink.took g.W.TextSink.tells (record { none = g.met.W.TextSink.none; joined = g.met.W.TextSink.joined }) p c.args.source.now.parameters.now c.args.writer.now c.in_err-before.field-0.0 profile (c.in_err-before.ensures.err p told))

pub returns-in_err-put_start-clause-part : goal.returns-in_err-put_start-clause-part
returns-in_err-put_start-clause-part g c =
    let q = c.args.source.now.parameters.now in
    let before = c.deref.result.now in
    let same = err_from_is_err_and c.from_residual-in_err-put_start.result c.from_residual-in_err-put_start.ensures.1 in
    let wrote = c.in_err-put_start.ensures in
    rw (same.1, same.2)
    (λ p told profile.
    (let start = before ++ tile_text p q 0 in
    let text : start ≡ text_upto p q 1 = ap (λ (x : List ℕ). x ++ tile_text p q 0) c.deref.ensures.value ∙ c.in_ok-before.ensures.text p told in
    left_start g.W.TextSink.took g.W.TextSink.tells (record { none = g.met.W.TextSink.none; joined = g.met.W.TextSink.joined }) p q c.args.writer.now c.put_start.new.writer start c.in_err-put_start.field-0.0 (some_tile (siz_of p q) told.source.written.siz)
    (c.in_ok-before.ensures.fits p told) text (wrote.0, wrote.1, wrote.2 (tile_text p q 0) (c.requires.first p told))))

pub returns-in_err-put_rest-clause-part : goal.returns-in_err-put_rest-clause-part
returns-in_err-put_rest-clause-part g c =
    let q = c.args.source.now.parameters.now in
    let before = c.deref.result.now in
    let same = err_from_is_err_and c.from_residual-in_err-put_rest.result c.from_residual-in_err-put_rest.ensures.1 in
    let wrote = c.in_ok-put_start.ensures in
    rw (same.1, same.2)
    (λ p told profile.
    (let start = before ++ tile_text p q 0 in
    let text : start ≡ text_upto p q 1 = ap (λ (x : List ℕ). x ++ tile_text p q 0) c.deref.ensures.value ∙ c.in_ok-before.ensures.text p told in
    left_rest g.W.TextSink.took g.W.TextSink.tells (record { none = g.met.W.TextSink.none; joined = g.met.W.TextSink.joined }) p q c.args.writer.now c.put_start.new.writer c.put_rest.new.writer start c.in_err-put_rest.field-0.0
    profile (c.in_ok-before.ensures.all p told) text (wrote.0, wrote.1, wrote.2 (tile_text p q 0) (c.requires.first p told)) (c.in_err-put_rest.ensures p told (c.in_ok-before.ensures.fits p told))))

pub returns-clause-part : goal.returns-clause-part
returns-clause-part g c p told profile =
    let q = c.args.source.now.parameters.now in
    let before = c.deref.result.now in
    let start = before ++ tile_text p q 0 in
    let text : start ≡ text_upto p q 1 = ap (λ (x : List ℕ). x ++ tile_text p q 0) c.deref.ensures.value ∙ c.in_ok-before.ensures.text p told in
    let wrote = c.in_ok-put_start.ensures in
    left_end g.W.TextSink.took g.W.TextSink.tells (record { none = g.met.W.TextSink.none; joined = g.met.W.TextSink.joined }) p q c.args.writer.now c.put_start.new.writer c.put_rest.new.writer
    c.send.new.writer start c.send.result profile told.source.written text
    (wrote.0, wrote.1, wrote.2 (tile_text p q 0) (c.requires.first p told)) (c.in_ok-put_rest.ensures p told (c.in_ok-before.ensures.fits p told)) c.send.ensures
