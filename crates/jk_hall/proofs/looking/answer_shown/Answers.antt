use Rattle.std.proofs.Common.{◌≡◌, map, IfOk, sym, subst, ◌∙◌, rules}
use Rattle.std.specs.Arc.{arc_value}
use Rattle.jk_web.specs.Cuts.{Within, Has}
use Rattle.jk_store.specs.Showing.{ShowImages, MayBeMade}
use Rattle.jk_store.specs.declared.shown.ShownWithParts.{ShownWithParts}
use Rattle.jk_hall.specs.Sights.{listed}
use Rattle.jk_hall.specs.Replying.{Replies}
use Rattle.jk_hall.proofs.Keeping.{replies_as}
use Rattle.jk_hall.proofs.looking.answer_shown.Goals as goal

pub returns-clause-reply : goal.returns-clause-reply
returns-clause-reply g c =
    let s : ShownWithParts g.row.S.Denot = record { entries = c.as_slice.result; shelf = c.args.shelf; hashed = c.args.hashed } in
    let end = c.answer_with.new.catalogue in
    let shelf : c.shelf-1.given.0 ≡ end.shelf.now = search rules in
    let by = replies_as g.S.Shelf.keeps g.S.Shelf.failed g.S.Shelf.gave g.S.Shelf.gave_at s end c.answer_with.ensures.steps.0 c.args.cache.now c.args.request.now
    c.answer_with.result c.answer_with.ensures.exact c.answer_with.ensures.same in
    subst (λ x. IfOk c.answer_with.result (λ r. Replies g.S.Shelf.keeps g.S.Shelf.failed g.S.Shelf.gave g.S.Shelf.gave_at (listed c.args.shown.now) c.args.shelf.now x c.args.cache.now c.args.request.now r))
    (sym shelf)
    (subst (λ items. IfOk c.answer_with.result (λ r. Replies g.S.Shelf.keeps g.S.Shelf.failed g.S.Shelf.gave g.S.Shelf.gave_at (map arc_value items) c.args.shelf.now end.shelf.now c.args.cache.now c.args.request.now r))
    c.as_slice.ensures.value by)

pub returns-clause-cuts : goal.returns-clause-cuts
returns-clause-cuts g c =
    let end = c.answer_with.new.catalogue in
    let entries : end.entries.now ≡ c.args.shown.now.entries.items = c.answer_with.ensures.steps.0 ∙ c.as_slice.ensures.value in
    record {
      held = λ h. subst (λ items. Within (Has c.answer_with.new.cache) (MayBeMade (map arc_value items))) entries
          (c.answer_with.ensures.holds (subst (λ items. Within (Has c.args.cache.now) (MayBeMade (map arc_value items))) (sym c.as_slice.ensures.value) h));
      known = λ h images shows kept of. c.answer_with.ensures.knows images (subst (λ items. ShowImages (map arc_value items) images) (sym c.as_slice.ensures.value) shows) kept of;
    }
