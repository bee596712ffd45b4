use Rattle.std.proofs.Common.{sym, ◌∙◌, arith, length}
use Rattle.std.proofs.lemmas.Bool.{eqb-false}
use Rattle.jk_pnm.specs.Reading.{magic_at}
use Rattle.jk_pnm.proofs.RefusedLaws.{magic_bad}
use Rattle.jk_pnm.proofs.JudgingLaws.{magic_stays, other_first, err_is_bad}
use Rattle.jk_pnm.proofs.judging.begins.Goals as goal

pub returns-else-is_empty : goal.returns-else-is_empty
returns-else-is_empty c = λ e more.
    let some = eqb-false (length c.args.bytes.now) 0 (sym c.is_empty.ensures ∙ c.if-is_empty.false) in
    other_first c.args.bytes.now more (omega (arith, some)) c.if-bytes-lt2.true e

pub returns : goal.returns
returns c = λ e more.
    magic_stays c.args.bytes.now more c.if-bytes-lt2.false
    ∙ err_is_bad c.magic.result (magic_at c.args.bytes.now) c.magic.ensures.exact (sym c.is_ok.ensures.value ∙ e) (magic_bad c.args.bytes.now)
