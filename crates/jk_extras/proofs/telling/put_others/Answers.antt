use Rattle.std.proofs.Common.{◌≡◌, ℕ, ◌+◌, ◌<◌, ◌≤◌, List, Option, Some, None, Ok, length, sym, ap, subst, ◌∙◌, arith}
use Rattle.std.proofs.lemmas.Result.{err_from_is_err_and}
use Rattle.jk_math.specs.Steps.{refuses_due}
use Rattle.jk_boxes.specs.Boxes.{head_size}
use Rattle.jk_extras.specs.declared.finding.Wanted.TheVariants.{Others}
use Rattle.jk_extras.specs.declared.finding.Found.{Found}
use Rattle.jk_extras.specs.Finding.{found_at}
use Rattle.jk_extras.specs.Texts.{others_from}
use Rattle.jk_extras.proofs.Passing.{some_head}
use Rattle.jk_extras.proofs.Copying.{OthersLeft, others_start, others_more, others_fault, others_untold, others_none, others_end}
use Rattle.jk_extras.proofs.telling.put_others.Goals as goal

pub loop-at-init : goal.loop-at-init
loop-at-init c = record { left = others_start c.args.file.now c.args.out.now.items c.args.from }

pub returns-in_err-found : goal.returns-in_err-found
returns-in_err-found c =
    let due = others_fault c.args.file.now c.loop-at.out.items c.loop-at.at _ _ c.loop-at.invariant.left (omega arith) (sym c.in_err-found.ensures.exact) in
    let p = err_from_is_err_and c.from_residual.result c.from_residual.ensures.1 in
    rw (p.1, p.2) (refuses_due _ _ due)

pub returns-in-None : goal.returns-in-None
returns-in-None c =
    let found : found_at Others c.loop-at.at c.args.file.now ≡ Ok None = sym c.in_ok-found.ensures.exact ∙ ap (λ (x : Option Found). Ok x) c.in-None.is in
    others_none c.args.file.now c.loop-at.out.items c.loop-at.at _ c.loop-at.invariant.left (omega arith) found

pub returns-in_err-tell : goal.returns-in_err-tell
returns-in_err-tell c =
    let found : found_at Others c.loop-at.at c.args.file.now ≡ Ok (Some c.in-Some.found) = sym c.in_ok-found.ensures.exact ∙ ap (λ (x : Option Found). Ok x) c.in-Some.is in
    let due = others_untold c.args.file.now c.loop-at.out.items c.loop-at.at _ c.in-Some.found _ c.loop-at.invariant.left (omega arith) found (sym c.in_err-tell.ensures) in
    let p = err_from_is_err_and c.from_residual-in_err-tell.result c.from_residual-in_err-tell.ensures.1 in
    rw (p.1, p.2) (refuses_due _ _ due)

pub loop-at-preserved : goal.loop-at-preserved
loop-at-preserved c =
    let file = c.args.file.now in
    let f = c.in-Some.found in
    let due = others_from (length file) c.args.out.now.items c.args.from file in
    let found : found_at Others c.loop-at.at file ≡ Ok (Some f) = sym c.in_ok-found.ensures.exact ∙ ap (λ (x : Option Found). Ok x) c.in-Some.is in
    let head : head_size f.head.form ≤ f.head.size = rw c.in-Some.is at c.in_ok-found.ensures.head in
    let behind : c.loop-at.at ≤ f.at = rw c.in-Some.is at c.in_ok-found.ensures.behind in
    let some : 0 < f.head.size = some_head f.head head in
    let next = others_more file c.loop-at.out.items c.loop-at.at due f c.in_ok-tell.field-0 c.loop-at.invariant.left (omega arith) found (sym c.in_ok-tell.ensures) (omega (arith, behind, some)) in
    record { left = subst (λ (x : List ℕ). OthersLeft file x (f.at + f.head.size) due) (sym c.in_ok-extend_from_slice.ensures.items) next }

pub returns : goal.returns
returns c = others_end c.args.file.now c.loop-at.out.items c.loop-at.at _ c.loop-at.invariant.left (omega arith)
