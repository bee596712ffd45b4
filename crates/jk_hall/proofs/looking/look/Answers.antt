use Rattle.std.proofs.Common.{◌≡◌, List, sym, subst, rules}
use Rattle.left_right.specs.Sides.{view}
use mathlib.Core.List.{IsPrefix}
use Rattle.jk_store.specs.declared.entry.Entry.{Entry}
use Rattle.jk_hall.specs.declared.rule.Sight.{Sight}
use Rattle.jk_hall.specs.Sights.{listed}
use Rattle.jk_hall.specs.Replying.{KeptOn}
use Rattle.jk_hall.proofs.Fronts.{prefix_self}
use Rattle.jk_hall.proofs.Keeping.{kept_longer, kept_same}
use Rattle.jk_hall.proofs.looking.look.Goals as goal

pub returns-in-Ok-clause-cuts : goal.returns-in-Ok-clause-cuts
returns-in-Ok-clause-cuts g c =
    let before = (view c.args.place.inner.place).seen in
    let after = (view c.leave-inner.result.place).seen in
    let entries : after ≡ listed c.get-shown.result.now = search rules in
    let p : IsPrefix before after = search rules in
    kept_longer g.S.Shelf.keeps before after c.args.ask.shelf.now c.args.place.cache c.answer_shown-reply.new.cache p
    (subst (λ (es : List Entry). KeptOn g.S.Shelf.keeps es es c.args.ask.shelf.now c.args.place.cache c.answer_shown-reply.new.cache) (sym entries) c.answer_shown-reply.ensures.cuts)

pub returns-in-Err-clause-cuts : goal.returns-in-Err-clause-cuts
returns-in-Err-clause-cuts g c =
    let before = (view c.args.place.inner.place).seen in
    kept_same g.S.Shelf.keeps before (view c.in-Err.inner.place).seen c.args.ask.shelf.now c.args.place.cache
    (subst (λ (v : Sight). IsPrefix before v.seen) (sym c.in-Err.ensures.sight) (prefix_self before))
