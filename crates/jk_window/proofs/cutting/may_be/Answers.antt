use Rattle.std.proofs.Common.{sym, ap, ◌∙◌}
use Rattle.jk_boxes.specs.declared.place.Boxed.{Boxed}
use Rattle.jk_window.proofs.BoxLaws.{opened_there, not_refused, same_flag}
use Rattle.jk_window.proofs.cutting.may_be.Goals as goal
use Rattle.jk_window.proofs.cutting.may_be.Goals.{then-place-kept-via-then-place-kept, then-place-kept-via-else-place-kept+then-place-kept-2, then-place-kept-via-else-place-kept+else-place-kept-2+then-place-kept-3}

pub returns-in_default-clause-no : goal.returns-in_default-clause-no
returns-in_default-clause-no c = λ e is. not_refused c.args.bytes.now c.args.index.now c.in_default.field-0 is c.in_default.ensures.exact

pub returns-then-place-kept-clause-no : goal.returns-then-place-kept-clause-no
returns-then-place-kept-clause-no c = λ e is.
    let same = opened_there c.args.bytes.now c.args.index.now c.in-Ok.place is c.in-Ok.ensures.exact ∙ sym c.place-kept.ensures in
    elim c.then-place-kept.branch [
      | then-place-kept-via-then-place-kept w ↦ w.if-place-kept.true (ap (λ (b : Boxed). b.start) same)
      | then-place-kept-via-else-place-kept+then-place-kept-2 w ↦ w.if-place-kept-2.true (ap (λ (b : Boxed). b.end) same)
      | then-place-kept-via-else-place-kept+else-place-kept-2+then-place-kept-3 w ↦ same_flag c.in-Ok.place.jp2 c.place-kept.result.jp2 (ap (λ (b : Boxed). b.jp2) same) w.if-place-kept-3.true
    ]
