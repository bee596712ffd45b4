use Rattle.std.proofs.Common.{◌≡◌, ◌-◌, ◌+◌, ◌++◌, [], ◌∷◌, List, length, Err, ap, sym, subst, ◌∙◌, arith, length-append}
use Rattle.std.proofs.lemmas.Result.{err_from_is_err_and}
use Rattle.jk_math.specs.Answer.{◌>>=◌}
use Rattle.jk_marks.specs.declared.coding.Coding.{Coding}
use Rattle.jk_params.specs.CodingReading.{codings_at, codings_from}
use Rattle.jk_params.proofs.LoopLaws.{codings_more, codings_end}
use Rattle.jk_params.proofs.coding.codings.Goals as goal

pub loop-component-preserved : goal.loop-component-preserved
loop-component-preserved c =
    let main = c.args.main.now in
    let head = c.args.head.now in
    let n = main.siz.components in
    let i = c.loop-component.component in
    let done = c.loop-component.codings in
    let k = c.in_ok-with_head.field-0 in
    let one = sym c.in_ok-with_head.ensures.exact in
    let step : codings_at main head ≡ codings_from main head (n - (i + 1)) (i + 1) (done ++ k ∷ []) =
    c.loop-component.invariant.0 ∙ codings_more main head n i done c.loop-component-test.true ∙ ap (λ r. r >>= λ k. codings_from main head (n - (i + 1)) (i + 1) (done ++ k ∷ [])) one in
    subst (λ (ks : List Coding). (codings_at main head ≡ codings_from main head (n - (i + 1)) (i + 1) ks) × (length ks ≡ i + 1)) (sym c.push.ensures)
    (step, omega (arith, length-append done (k ∷ []), c.loop-component.invariant.1))

pub returns-in_err-with_head : goal.returns-in_err-with_head
returns-in_err-with_head c =
    let main = c.args.main.now in
    let head = c.args.head.now in
    let n = main.siz.components in
    let i = c.loop-component.component in
    let done = c.loop-component.codings in
    let one = sym c.in_err-with_head.ensures.exact in
    let due : codings_at main head ≡ Err c.in_err-with_head.field-0.0 =
    c.loop-component.invariant.0 ∙ codings_more main head n i done c.loop-component-test.true ∙ ap (λ r. r >>= λ k. codings_from main head (n - (i + 1)) (i + 1) (done ++ k ∷ [])) one in
    let p = err_from_is_err_and c.from_residual.result c.from_residual.ensures.1 in
    rw (p.1, p.2) (sym due)

pub returns : goal.returns
returns c =
    let main = c.args.main.now in
    sym (c.loop-component.invariant.0 ∙ codings_end main c.args.head.now main.siz.components c.loop-component.component c.loop-component.codings c.loop-component-test.false)
