use Rattle.std.proofs.Common.{ℕ, Ok, inl, inr, sym, ◌∙◌}
use Rattle.std.specs.Global.{Vec}
use Rattle.jk_math.specs.Steps.{answers_same, if_ok_answers}
use Rattle.jk_extras.specs.Placing.{with_extras_at}
use Rattle.jk_extras.specs.Dressed.{dressed, IsDressed}
use Rattle.jk_extras.proofs.Dressings.{dressed_there, none_same}
use Rattle.jk_boxes.specs.Boxes.{HoldsCodestream}
use Rattle.jk_extras.proofs.Holding.{dressed_is}
use Rattle.jk_extras.proofs.Bare.{bare_undressed}
use Rattle.jk_extras.proofs.dressing.with_extras.Goals as goal

pub returns-clause-boxes : goal.returns-clause-boxes
returns-clause-boxes c = λ codestream j.
    answers_same (λ (v : Vec ℕ). v.items) c.dressing.result (with_extras_at c.args.extras.now c.args.file.now) (dressed j c.args.extras.now) c.dressing.ensures
    (dressed_there c.args.file.now codestream j c.args.extras.now)

pub returns-clause-none : goal.returns-clause-none
returns-clause-none c = λ codestream j none.
    answers_same (λ (v : Vec ℕ). v.items) c.dressing.result (with_extras_at c.args.extras.now c.args.file.now) (Ok c.args.file.now) c.dressing.ensures
    (dressed_there c.args.file.now codestream j c.args.extras.now ∙ none_same c.args.file.now codestream j c.args.extras.now none)

pub returns-clause-holds : goal.returns-clause-holds
returns-clause-holds c = λ codestream j.
    let e = c.args.extras.now in
    if_ok_answers (λ (v : Vec ℕ). v.items) c.dressing.result (with_extras_at e c.args.file.now) (λ (v : Vec ℕ). IsDressed j e v.items) c.dressing.ensures
    (λ v due. dressed_is c.args.file.now codestream j e v.items (sym (dressed_there c.args.file.now codestream j e) ∙ due))

pub returns-clause-same : goal.returns-clause-same
returns-clause-same c = λ codestream h.
    let e = c.args.extras.now in
    let file = c.args.file.now in
    if_ok_answers (λ (v : Vec ℕ). v.items) c.dressing.result (with_extras_at e file) (λ (v : Vec ℕ). HoldsCodestream v.items codestream) c.dressing.ensures
    (λ v due. elim h [
      | inl bare ↦ bare_undressed file codestream e v.items bare due
      | inr j ↦ inr (dressed_is file codestream j e v.items (sym (dressed_there file codestream j e) ∙ due)).is
    ])
