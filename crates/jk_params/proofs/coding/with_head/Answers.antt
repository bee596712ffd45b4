use Rattle.std.proofs.Common.{sym, ap, ◌∙◌}
use Rattle.jk_math.specs.Steps.{if_ok_from}
use Rattle.jk_marks.specs.declared.segments.CodingStyle.{CodingStyle}
use Rattle.jk_marks.specs.declared.segments.Quantisation.{Quantisation}
use Rattle.jk_params.specs.Coding.{coding_with}
use Rattle.jk_params.specs.CodingReading.{planes_at, style_in}
use Rattle.jk_params.proofs.CodingLaws.{planes_again, judged_has, coding_same}
use Rattle.jk_params.proofs.coding.with_head.Goals as goal

pub returns-clause-planes : goal.returns-clause-planes
returns-clause-planes c =
    if_ok_from c.judged.result _ (λ k e. (judged_has c.style_of.result.now c.quantisation_of.result.now c.coding.result k c.coding.ensures (sym c.judged.ensures ∙ e)).1)

pub returns-clause-only : goal.returns-clause-only
returns-clause-only c = λ siz segments tile m h has.
    let same = coding_same siz segments tile c.args.main.now c.args.head.now c.args.component c.requires m h in
    let made = c.coding.ensures ∙ ap (λ (s : CodingStyle). coding_with s c.quantisation_of.result.now) c.style_of.ensures
    ∙ ap (λ (q : Quantisation). coding_with (style_in c.args.main.now c.args.head.now c.args.component) q) c.quantisation_of.ensures ∙ same in
    c.judged.ensures ∙ ap planes_at made ∙ planes_again _ has

pub returns-clause-found : goal.returns-clause-found
returns-clause-found c = λ siz segments tile m h.
    let same = coding_same siz segments tile c.args.main.now c.args.head.now c.args.component c.requires m h in
    let made = ap (λ (s : CodingStyle). coding_with s c.quantisation_of.result.now) c.style_of.ensures
    ∙ ap (λ (q : Quantisation). coding_with (style_in c.args.main.now c.args.head.now c.args.component) q) c.quantisation_of.ensures ∙ same in
    if_ok_from c.judged.result _ (λ k e. (judged_has c.style_of.result.now c.quantisation_of.result.now c.coding.result k c.coding.ensures (sym c.judged.ensures ∙ e)).0 ∙ made)
