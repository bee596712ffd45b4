use Rattle.std.proofs.Common.{◌≡◌, ℕ, true, Ok, nat_eq, sym, ◌∙◌, arith}
use Rattle.std.specs.Global.{Vec}
use Rattle.std.specs.List.{starts_with}
use Rattle.std.proofs.lemmas.Bool.{not-false}
use Rattle.jk_math.specs.Steps.{if_ok_answers, answers_same}
use Rattle.jk_boxes.specs.Boxes.{soc}
use Rattle.jk_boxes.specs.Written.{recoded}
use Rattle.jk_boxes.specs.Replacing.{replaced}
use Rattle.jk_boxes.proofs.WrittenLaws.{is_jp2, replaced_jp2, replaced_bare, replaced_holds}
use Rattle.jk_boxes.proofs.writing.replace_codestream.Goals as goal

pub replacing-requires : goal.replacing-requires
replacing-requires c = is_jp2 c.args.file.now c.args.boxed.now c.requires

pub returns-clause-changed : goal.returns-clause-changed
returns-clause-changed c = λ old j.
    answers_same (λ (v : Vec ℕ). v.items) c.replacing.result (replaced c.args.file.now c.args.codestream.now) (recoded j c.args.codestream.now) c.replacing.ensures
    (replaced_jp2 c.args.file.now old c.args.codestream.now j)

pub returns-clause-opens : goal.returns-clause-opens
returns-clause-opens c =
    if_ok_answers (λ (v : Vec ℕ). v.items) c.replacing.result _ _ c.replacing.ensures
    (λ v e is. replaced_holds c.args.file.now c.args.codestream.now v.items c.args.boxed.now (λ i. omega (arith, c.type_inv.file i)) c.requires is e)

pub returns-clause-bare : goal.returns-clause-bare
returns-clause-bare c = λ is.
    let bare : starts_with nat_eq c.args.file.now soc ≡ true = not-false _ (sym (is_jp2 c.args.file.now c.args.boxed.now c.requires) ∙ is) in
    answers_same (λ (v : Vec ℕ). v.items) c.replacing.result (replaced c.args.file.now c.args.codestream.now) (Ok c.args.codestream.now) c.replacing.ensures
    (replaced_bare c.args.file.now c.args.codestream.now bare)
