use Rattle.std.proofs.Common.{◌≡◌, ℕ, ◌++◌, List, take, drop, Ok, subst, sym, ap, ◌∙◌, arith}
use Rattle.std.proofs.lemmas.List.{take_rest}
use Rattle.std.proofs.lemmas.Result.{err_from_is_err_and}
use Rattle.byteorder.specs.Endian.{big_number}
use Rattle.jk_math.specs.Answer.{Refuses}
use Rattle.jk_boxes.specs.Boxes.{boxes_text}
use Rattle.jk_extras.specs.Extras.{colour_boxes}
use Rattle.jk_extras.specs.Placing.{kept_after}
use Rattle.jk_extras.proofs.Sizes.{extras_low, judged}
use Rattle.jk_extras.proofs.Steps.{header_kept, header_refused}
use Rattle.jk_extras.proofs.dressing.dress_header.Goals as goal

pub put_colour-requires : goal.put_colour-requires
put_colour-requires c =
    let low = extras_low c.read_u16-components.result c.args.extras.now (judged _ c.in_ok-judge.ensures) in
    omega (arith, low.colour)

pub returns-in_err-put_all_kept-clause-exact : goal.returns-in_err-put_all_kept-clause-exact
returns-in_err-put_all_kept-clause-exact c =
    let e = c.args.extras.now in
    let whole = c.args.contents.now in
    let n = c.read_u16-components.result in
    let number : n ≡ big_number 2 (drop 16 whole) = c.read_u16-components.ensures ∙ ap (big_number 2) (take_rest whole 16) in
    let known : c.put_colour.new.out.items ≡ take 22 whole ++ boxes_text (colour_boxes n e.colour) =
    c.in_ok-put_colour.ensures.ok ∙ ap (λ (x : List ℕ). x ++ boxes_text (colour_boxes n e.colour)) c.in_ok-out.ensures.items in
    let p = err_from_is_err_and c.from_residual-in_err-put_all_kept.result c.from_residual-in_err-put_all_kept.ensures.1 in
    let due = header_refused e whole n c.put_colour.new.out.items (omega arith) number (judged _ c.in_ok-judge.ensures) known c.in_err-put_all_kept.field-0.0
    (subst (λ (x : List ℕ). Refuses c.in_err-put_all_kept.field-0.0 (kept_after e c.put_colour.new.out.items x)) (take_rest whole 22) c.in_err-put_all_kept.ensures) in
    rw (p.1, p.2) due

pub returns-clause-exact : goal.returns-clause-exact
returns-clause-exact c =
    let e = c.args.extras.now in
    let whole = c.args.contents.now in
    let n = c.read_u16-components.result in
    let number : n ≡ big_number 2 (drop 16 whole) = c.read_u16-components.ensures ∙ ap (big_number 2) (take_rest whole 16) in
    let known : c.put_colour.new.out.items ≡ take 22 whole ++ boxes_text (colour_boxes n e.colour) =
    c.in_ok-put_colour.ensures.ok ∙ ap (λ (x : List ℕ). x ++ boxes_text (colour_boxes n e.colour)) c.in_ok-out.ensures.items in
    header_kept e whole n c.put_colour.new.out.items c.put_all_kept.new.out.items (omega arith) number (judged _ c.in_ok-judge.ensures) known
    (ap (kept_after e c.put_colour.new.out.items) (sym (take_rest whole 22)) ∙ c.in_ok-put_all_kept.ensures)
    ∙ ap Ok (sym c.in_ok-put_resolution.ensures.ok)

pub returns-clause-others : goal.returns-clause-others
returns-clause-others c = (extras_low c.read_u16-components.result c.args.extras.now (judged _ c.in_ok-judge.ensures)).others
