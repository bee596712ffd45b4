use Rattle.std.proofs.Common.{true, sym, ap, ◌∙◌, Bool}
use Rattle.std.proofs.lemmas.Result.{err_from_is_err_and}
use Rattle.jk_math.specs.Steps.{done}
use Rattle.jk_mqdec.specs.Answers.{next}
use Rattle.jk_scan.specs.Neighbours.{seen_from}
use Rattle.jk_scan.specs.WordPlaces.{column, row}
use Rattle.jk_scan.proofs.Laws.{sign_seen_in, row_stripe}
use Rattle.jk_block.specs.Reading.{coded_as}
use Rattle.jk_block.specs.decoding.BlockStates.{progress, significant_in}
use Rattle.jk_block.specs.decoding.Sights.{seen_in}
use Rattle.jk_block.proofs.decoding.Taking.{decide_ok, decide_err, sign_takes, sign_faults}
use Rattle.jk_block.proofs.decoding.places.read_sign.Goals as goal

pub returns-clause-takes : goal.returns-clause-takes
returns-clause-takes c = λ at d sees coder st.
    let x = column at.word c.args.k in
    let y = row at.stripe c.args.k in
    let bytes = c.args.decoder.now.bytes in
    let cx = c.sign_context_at-sign.result.context in
    let bit = c.in_ok-bit.bit in
    let n = next bytes coder cx in
    let seen = (c.sign_context_at-sign.ensures.value (seen_in d at.stripe) (seen_from d.shape at.stripe d.negative) at.word at.stripe sees.significant sees.negative
    ∙ sign_seen_in d.shape at.stripe (significant_in d) d.negative (column at.word c.args.k) (row at.stripe c.args.k) (row_stripe at.stripe c.args.k c.requires.on_row)) in
    record {
      next = n;
      stands = c.in_ok-bit.ensures.next coder st;
      is = sign_takes bytes d.shape at.plane x y (progress d coder) c.sign_context_at-sign.result bit n seen (decide_ok bytes cx coder bit (c.in_ok-bit.ensures.answer coder st))
          ∙ ap (λ (b : Bool). done (coded_as at.plane x y true b (progress d n))) (sym c.flipped.ensures);
    }

pub returns-in_err-bit-clause-takes : goal.returns-in_err-bit-clause-takes
returns-in_err-bit-clause-takes c =
    let p = err_from_is_err_and c.from_residual.result c.from_residual.ensures.1 in
    let bytes = c.args.decoder.now.bytes in
    let cx = c.sign_context_at-sign.result.context in
    rw (p.1, p.2) (λ at d sees coder st.
    sign_faults bytes d.shape at.plane (column at.word c.args.k) (row at.stripe c.args.k) (progress d coder) c.sign_context_at-sign.result c.in_err-bit.field-0.0
    (c.sign_context_at-sign.ensures.value (seen_in d at.stripe) (seen_from d.shape at.stripe d.negative) at.word at.stripe sees.significant sees.negative
    ∙ sign_seen_in d.shape at.stripe (significant_in d) d.negative (column at.word c.args.k) (row at.stripe c.args.k) (row_stripe at.stripe c.args.k c.requires.on_row))
    (decide_err bytes cx coder c.in_err-bit.field-0.0 (c.in_err-bit.ensures.answer coder st)))
