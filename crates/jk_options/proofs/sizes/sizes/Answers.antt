use Rattle.std.proofs.Common.{ℕ, List, sym, ap, ◌∙◌, arith}
use Rattle.std.proofs.lemmas.List.{append-nil}
use Rattle.std.proofs.lemmas.Result.{err_from_is_err_and}
use Rattle.jk_math.specs.Steps.{refuses_due, done}
use Rattle.jk_options.specs.Sizes.{sizes_at}
use Rattle.jk_options.proofs.SizeLaws.{behind, one_more, first_bad, second_bad, odd_end, even_end}
use Rattle.jk_options.proofs.sizes.sizes.Goals as goal

pub returns-in_err-height : goal.returns-in_err-height
returns-in_err-height c =
    let p = err_from_is_err_and c.from_residual.result c.from_residual.ensures.1 in
    let e = c.in_err-height.field-0.0 in
    let bad = first_bad c.args.digits.now c.loop-i.i e (omega arith) (sym c.digit.ensures ∙ c.in_err-height.was) in
    rw (p.1, p.2) (refuses_due e (sizes_at c.args.digits.now) (sym c.loop-i.invariant ∙ ap (behind c.loop-i.sizes.items) bad))

pub returns-in_err-width : goal.returns-in_err-width
returns-in_err-width c =
    let p = err_from_is_err_and c.from_residual-in_err-width.result c.from_residual-in_err-width.ensures.1 in
    let e = c.in_err-width.field-0.0 in
    let bad = second_bad c.args.digits.now c.loop-i.i c.in_ok-height.height e (omega arith) (sym c.digit.ensures ∙ c.in_ok-height.was) (sym c.digit-in-loop-i.ensures ∙ c.in_err-width.was) in
    rw (p.1, p.2) (refuses_due e (sizes_at c.args.digits.now) (sym c.loop-i.invariant ∙ ap (behind c.loop-i.sizes.items) bad))

pub loop-i-preserved : goal.loop-i-preserved
loop-i-preserved c =
    let step = one_more c.loop-i.sizes.items c.args.digits.now c.loop-i.i c.in_ok-height.height c.in_ok-width.width (omega arith) (sym c.digit.ensures ∙ c.in_ok-height.was) (sym c.digit-in-loop-i.ensures ∙ c.in_ok-width.was) in
    rw c.in_ok-push.ensures.items (sym step ∙ c.loop-i.invariant)

pub returns-then-digits-ne0 : goal.returns-then-digits-ne0
returns-then-digits-ne0 c =
    sym c.loop-i.invariant ∙ ap (behind c.loop-i.sizes.items) (odd_end c.args.digits.now c.loop-i.i (omega arith))

pub returns : goal.returns
returns c =
    sym c.loop-i.invariant ∙ ap (behind c.loop-i.sizes.items) (even_end c.args.digits.now c.loop-i.i (omega arith)) ∙ ap (λ (xs : List (ℕ × ℕ)). done xs) (append-nil c.loop-i.sizes.items)
