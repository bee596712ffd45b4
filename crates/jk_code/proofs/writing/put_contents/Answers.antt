use Rattle.std.proofs.lemmas.Result.{err_from_is_err_and}
use Rattle.jk_params.specs.Profile.{siz_of}
use Rattle.jk_geom.proofs.Laws.{some_tile}
use Rattle.jk_code.specs.Contents.{HasTiles}
use Rattle.jk_code.proofs.SendingLaws.{left_none}
use Rattle.jk_code.proofs.writing.put_contents.Goals as goal

pub content-requires : goal.content-requires
content-requires g c =
    let p = c.requires.some.0 in
    let q = c.args.source.now.parameters.now in
    let told : HasTiles g.T.TileContents.tells c.args.source.now c.args.tiles.now p = c.requires.some.1 in
    record { number = (p, q, told.told, some_tile (siz_of p q) told.source.written.siz) }

pub returns-in_err-first-clause-part : goal.returns-in_err-first-clause-part
returns-in_err-first-clause-part g c =
    let same = err_from_is_err_and c.from_residual.result c.from_residual.ensures.1 in
    rw (same.1, same.2) (λ p told profile. left_none g.W.TextSink.took g.W.TextSink.tells (record { none = g.met.W.TextSink.none; joined = g.met.W.TextSink.joined }) p c.args.source.now.parameters.now c.args.writer.now c.in_err-first.field-0.0 c.in_err-first.ensures.memory)

pub put_file-requires-clause-first : goal.put_file-requires-clause-first
put_file-requires-clause-first g c p told = c.in_ok-first.ensures.value p c.args.source.now.parameters.now told.told
