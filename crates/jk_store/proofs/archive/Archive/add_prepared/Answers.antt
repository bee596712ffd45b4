use Rattle.std.proofs.Common.{◌≡◌, ◌⊎◌, ◌++◌, ◌∷◌, [], map, Err, refl, ap, sym, subst, ◌∙◌}
use Rattle.std.specs.Arc.{arc_value}
use Rattle.std.specs.String.{string_bytes}
use Rattle.jk_store.specs.Names.{temporary_name, file_name}
use Rattle.jk_store.specs.Catalogue.{IsEntryOf}
use Rattle.jk_store.specs.Adding.{judged_name, IsUnplaced}
use Rattle.jk_store.specs.Preparing.{ready_bytes, due_beside}
use Rattle.jk_store.specs.Showing.{ShowImages, StandForImages}
use Rattle.jk_store.proofs.DueLaws.{stands_due, holds_due, image_due, left_due, cause_placed_due, passes_too}
use Rattle.jk_store.proofs.StoringLaws.{added_judged, added_refused, not_due, passed_on}
use Rattle.jk_store.proofs.archive.Archive.add_prepared.Goals as goal

pub enter-requires : goal.enter-requires
enter-requires g c =
    let ready = c.in_ok-ready.ready in
    let e = arc_value ready.entry in
    let is = c.args.prepared.entered ready c.in_ok-ready.was in
    record {
      made = subst (λ n. IsEntryOf e n c.deref-2.result.now) (sym c.as_str-name.ensures.value) (subst (λ b. IsEntryOf e (string_bytes c.args.prepared.name) b) (sym c.deref-2.ensures.value) is);
      named = c.in_ok-judge_beside.ensures.named;
      fresh = rw c.deref.ensures.value at c.in_ok-judge_beside.ensures.fresh;
      room = rw c.deref.ensures.value at c.in_ok-judge_beside.ensures.room;
    }

pub returns-clause-judged : goal.returns-clause-judged
returns-clause-judged g c = λ e due.
    let entries = map arc_value c.args.self.now.entries.items in
    let made = c.args.prepared.made in
    let file = c.in_ok-ready.ready.bytes.items in
    let judged = sym (rw (c.deref.ensures.value, c.as_str-name.ensures.value) at c.in_ok-judge_beside.ensures.exact) in
    not_due _ (due_beside entries c.args.prepared) file e (added_judged entries (string_bytes c.args.prepared.name) (ready_bytes made) judged ∙ ap ready_bytes c.in_ok-ready.was) due

pub returns-clause-stands : goal.returns-clause-stands
returns-clause-stands g c =
    stands_due _ _ (ap ready_bytes c.in_ok-ready.was) arc_value (string_bytes c.args.prepared.name) c.enter.result (rw (c.as_str-name.ensures.value, c.deref-2.ensures.value) at c.enter.ensures.stands)

pub returns-clause-holds : goal.returns-clause-holds
returns-clause-holds g c = λ files f kept is.
    let name = string_bytes c.args.prepared.name in
    holds_due _ _ (ap ready_bytes c.in_ok-ready.was) g.S.Shelf.keeps c.enter.new.self.shelf (file_name name) (temporary_name name) files c.enter.result
    ((rw (c.as_str-name.ensures.value, c.deref-2.ensures.value) at c.enter.ensures.holds) files kept) f is

pub returns-clause-shows : goal.returns-clause-shows
returns-clause-shows g c = λ images shows.
    image_due _ _ (ap ready_bytes c.in_ok-ready.was) (string_bytes c.args.prepared.name) (λ i. ShowImages (map arc_value c.enter.new.self.entries.items) (images ++ i ∷ [])) c.enter.result
    ((rw (c.as_str-name.ensures.value, c.deref-2.ensures.value) at c.enter.ensures.shows) images shows)

pub returns-clause-keeps : goal.returns-clause-keeps
returns-clause-keeps g c = λ images stands.
    image_due _ _ (ap ready_bytes c.in_ok-ready.was) (string_bytes c.args.prepared.name) (λ i. StandForImages g.S.Shelf.keeps (map arc_value c.enter.new.self.entries.items) c.enter.new.self.shelf (images ++ i ∷ []))
    c.enter.result ((rw (c.as_str-name.ensures.value, c.deref-2.ensures.value) at c.enter.ensures.keeps) images stands)

pub returns-clause-left : goal.returns-clause-left
returns-clause-left g c = λ files kept.
    let name = string_bytes c.args.prepared.name in
    left_due _ _ (ap ready_bytes c.in_ok-ready.was) g.S.Shelf.keeps c.enter.new.self.shelf (file_name name) (temporary_name name) files c.enter.result
    ((rw (c.as_str-name.ensures.value, c.deref-2.ensures.value) at c.enter.ensures.left) files kept)

pub returns-clause-cause : goal.returns-clause-cause
returns-clause-cause g c =
    let name = string_bytes c.args.prepared.name in
    cause_placed_due _ _ (ap ready_bytes c.in_ok-ready.was) (λ e. judged_name (map arc_value c.args.self.now.entries.items) name ≡ Err e)
    (IsUnplaced g.S.Shelf.unwritten g.S.Shelf.unplaced g.S.Shelf.taken (temporary_name name) (file_name name) c.args.self.now.shelf c.enter.new.self.shelf) c.enter.result
    (rw c.as_str-name.ensures.value at c.enter.ensures.cause)

pub returns-clause-counts : goal.returns-clause-counts
returns-clause-counts g c =
    passes_too _ (λ e. (judged_name (map arc_value c.args.self.now.entries.items) (string_bytes c.args.prepared.name) ≡ Err e) ⊎ (ready_bytes c.args.prepared.made ≡ Err e)) c.enter.result _ _ c.enter.ensures.counts

pub returns-in_err-judge_beside-clause-judged : goal.returns-in_err-judge_beside-clause-judged
returns-in_err-judge_beside-clause-judged g c = λ e due.
    let entries = map arc_value c.args.self.now.entries.items in
    let fault = c.in_err-judge_beside.field-0.0 in
    let judged = sym (rw (c.deref.ensures.value, c.as_str-name.ensures.value) at c.in_err-judge_beside.ensures.exact) in (
      passed_on c.from_residual.result fault e (due_beside entries c.args.prepared) c.from_residual.ensures.1
          (added_refused entries (string_bytes c.args.prepared.name) (ready_bytes c.args.prepared.made) fault judged) due,
      refl,
    )

pub returns-in_err-ready-clause-judged : goal.returns-in_err-ready-clause-judged
returns-in_err-ready-clause-judged g c = λ e due.
    let entries = map arc_value c.args.self.now.entries.items in
    let made = c.args.prepared.made in
    let judged = sym (rw (c.deref.ensures.value, c.as_str-name.ensures.value) at c.in_ok-judge_beside.ensures.exact) in (
      passed_on c.from_residual-in_err-ready.result c.in_err-ready.field-0.0 e (due_beside entries c.args.prepared) c.from_residual-in_err-ready.ensures.1
          (added_judged entries (string_bytes c.args.prepared.name) (ready_bytes made) judged ∙ ap ready_bytes c.in_err-ready.was) due,
      refl,
    )

pub returns-clause-free : goal.returns-clause-free
returns-clause-free g c = λ files b kept is. (rw c.as_str-name.ensures.value at c.enter.ensures.free) refl files b kept is
