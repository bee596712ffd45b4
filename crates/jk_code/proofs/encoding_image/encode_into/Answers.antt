use Rattle.std.proofs.Common.{rules, []}
use Rattle.std.proofs.lemmas.Result.{err_from_is_err_and, on_ok_weaker}
use Rattle.jk_math.proofs.Laws.{appends_none}
use Rattle.jk_tile.specs.encoding.Sinks.{IsWrittenBehind, written_none, written_joined}
use Rattle.jk_code.specs.Beginnings.{IsShelf}
use Rattle.jk_code.proofs.ImageLaws.{left_bad}
use Rattle.jk_code.proofs.SendingLaws.{left_ok}
use Rattle.jk_code.proofs.encoding_image.encode_into.Goals as goal

pub returns-in_err-check_frame-clause-part : goal.returns-in_err-check_frame-clause-part
returns-in_err-check_frame-clause-part g c =
    let same = err_from_is_err_and c.from_residual.result c.from_residual.ensures.1 in
    rw (same.1, same.2)
    ([], appends_none (g.W.Write.contents c.args.writer.now), left_bad IsShelf c.args.image.now c.frame_of-frame.result c.args.parameters.now c.in_err-check_frame.field-0.0 c.frame_of-frame.ensures.value c.in_err-check_frame.ensures.exact)

pub returns-clause-ok : goal.returns-clause-ok
returns-clause-ok g c = on_ok_weaker c.put_image.result (λ all.
    (let same = all.2.same in
    let behind = all.2.behind in
    (all.0, all.1, search rules)))
    (left_ok (IsWrittenBehind g.W.Write.contents) IsShelf (record { none = written_none g.W.Write.contents; joined = written_joined g.W.Write.contents }) c.args.image.now c.args.parameters.now _ _ c.put_image.result c.put_image.ensures.part)

pub returns-clause-part : goal.returns-clause-part
returns-clause-part g c =
    let wrote = c.put_image.ensures.part in
    let same = wrote.1.same in
    let behind = wrote.1.behind in
    (wrote.0, search rules, wrote.2)
