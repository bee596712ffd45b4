use Rattle.std.proofs.Common.{[], inl, inr, refl}
use Rattle.std.proofs.lemmas.Result.{err_from_is_err_and}
use Rattle.jk_tile.specs.encoding.PacketsWritten.{tile_text}
use Rattle.jk_code.proofs.writing.put_tile.Goals as goal

pub content-requires : goal.content-requires
content-requires g c =
    record { number = (c.requires.number.0, c.args.source.now.parameters.now, c.requires.number.1.told, c.requires.number.2) }

pub returns-in_err-content : goal.returns-in_err-content
returns-in_err-content g c =
    let same = err_from_is_err_and c.from_residual.result c.from_residual.ensures.1 in
    rw (same.1, same.2) (λ p told. ([], g.met.W.TextSink.none c.args.writer.now, inr (inl (c.in_err-content.ensures.memory, refl))))

pub put_part-requires : goal.put_part-requires
put_part-requires g c =
    let p = c.requires.number.0 in
    let q = c.args.source.now.parameters.now in
    record { some = (tile_text p q c.args.number, c.in_ok-content.ensures.value p q c.requires.number.1.told) }

pub returns : goal.returns
returns g c p told =
    let q = c.args.source.now.parameters.now in
    let wrote = c.put_part.ensures in
    (wrote.0, wrote.1, wrote.2 (tile_text p q c.args.number) (c.in_ok-content.ensures.value p q told.told))
