use Rattle.std.proofs.Common.{◌≡◌, ◌++◌, Err, ap}
use Rattle.std.proofs.lemmas.Result.{err_from_is_err_and}
use Rattle.jk_pnm.specs.declared.judging.Unread.TheVariants.{Never}
use Rattle.jk_pnm.proofs.JudgingLaws.{fields_are, fields_bad, fields_bad_second, fields_bad_third, field_goes_on}
use Rattle.jk_pnm.proofs.judging.fields.Goals as goal

pub returns-in_err-width-clause-never : goal.returns-in_err-width-clause-never
returns-in_err-width-clause-never c = λ e more. fields_bad _ (c.in_err-width.ensures.never (let same = err_from_is_err_and c.from_residual.result c.from_residual.ensures.1 in let is : c.in_err-width.field-0.0 ≡ Never = cc in ap Err is) more)

pub returns-in_err-height-clause-never : goal.returns-in_err-height-clause-never
returns-in_err-height-clause-never c = λ e more.
    let first = c.in_ok-width.ensures.ok in
    fields_bad_second (c.args.bytes.now ++ more) (c.in_ok-width.rest.now ++ more) c.in_ok-width.width (field_goes_on c.args.bytes.now more c.in_ok-width.rest.now c.in_ok-width.width first.0 first.1)
    (c.in_err-height.ensures.never (let same = err_from_is_err_and c.from_residual-in_err-height.result c.from_residual-in_err-height.ensures.1 in let is : c.in_err-height.field-0.0 ≡ Never = cc in ap Err is) more)

pub returns-in_err-maxval-clause-never : goal.returns-in_err-maxval-clause-never
returns-in_err-maxval-clause-never c = λ e more.
    let first = c.in_ok-width.ensures.ok in
    let second = c.in_ok-height.ensures.ok in
    fields_bad_third (c.args.bytes.now ++ more) (c.in_ok-width.rest.now ++ more) (c.in_ok-height.rest.now ++ more) c.in_ok-width.width c.in_ok-height.height
    (field_goes_on c.args.bytes.now more c.in_ok-width.rest.now c.in_ok-width.width first.0 first.1)
    (field_goes_on c.in_ok-width.rest.now more c.in_ok-height.rest.now c.in_ok-height.height second.0 second.1)
    (c.in_err-maxval.ensures.never (let same = err_from_is_err_and c.from_residual-in_err-maxval.result c.from_residual-in_err-maxval.ensures.1 in let is : c.in_err-maxval.field-0.0 ≡ Never = cc in ap Err is) more)

pub returns-clause-ok : goal.returns-clause-ok
returns-clause-ok c = (
  fields_are c.args.bytes.now c.in_ok-width.rest.now c.in_ok-height.rest.now c.in_ok-maxval.rest.now c.in_ok-width.width c.in_ok-height.height c.in_ok-maxval.maxval
      c.in_ok-width.ensures.ok.0 c.in_ok-height.ensures.ok.0 c.in_ok-maxval.ensures.ok.0,
  c.in_ok-maxval.ensures.ok.1,
)
