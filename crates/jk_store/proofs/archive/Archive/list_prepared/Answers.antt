use Rattle.std.proofs.Common.{◌≡◌, ◌⊎◌, inr, ◌++◌, ◌∷◌, [], map, Some, Err, IfOk, ap, sym, subst, ◌∙◌}
use Rattle.std.specs.Arc.{arc_value}
use Rattle.std.specs.String.{string_bytes}
use Rattle.jk_math.specs.Memory.{IsMemory}
use Rattle.jk_math.specs.Steps.{ok_is}
use Rattle.jk_catalogue.specs.Images.{Image}
use Rattle.jk_store.specs.Catalogue.{IsEntryOf}
use Rattle.jk_store.specs.Preparing.{ready_bytes, due_beside}
use Rattle.jk_store.specs.Showing.{ShowImages, StandForImages}
use Rattle.jk_store.proofs.OpenLaws.{fault_is}
use Rattle.jk_store.proofs.DueLaws.{stands_due, image_due}
use Rattle.jk_store.proofs.StoringLaws.{added_judged, added_refused, not_due, passed_on}
use Rattle.jk_store.proofs.ListingLaws.{cause_listed}
use Rattle.jk_store.proofs.archive.Archive.list_prepared.Goals as goal

pub list_ready-requires : goal.list_ready-requires
list_ready-requires g c =
    let ready = c.in_ok-ready.ready.now in
    let e = arc_value ready.entry in
    let is = c.args.prepared.now.entered ready c.in_ok-ready.ensures in
    record {
      made = subst (λ n. IsEntryOf e n c.deref-2.result.now) (sym c.name-name.ensures) (subst (λ b. IsEntryOf e (string_bytes c.args.prepared.now.name) b) (sym c.deref-2.ensures.value) is);
      named = c.in_ok-judge_beside.ensures.named;
      fresh = rw c.deref.ensures.value at c.in_ok-judge_beside.ensures.fresh;
      room = rw c.deref.ensures.value at c.in_ok-judge_beside.ensures.room;
    }

pub returns-clause-judged : goal.returns-clause-judged
returns-clause-judged g c = λ e due.
    let entries = map arc_value c.args.self.now.entries.items in
    let made = c.args.prepared.now.made in
    let file = c.in_ok-ready.ready.now.bytes.items in
    let judged = sym (rw (c.deref.ensures.value, c.name-name.ensures) at c.in_ok-judge_beside.ensures.exact) in
    not_due _ (due_beside entries c.args.prepared.now) file e (added_judged entries (string_bytes c.args.prepared.now.name) (ready_bytes made) judged ∙ ap ready_bytes c.in_ok-ready.ensures) due

pub returns-clause-stands : goal.returns-clause-stands
returns-clause-stands g c =
    stands_due _ _ (ap ready_bytes c.in_ok-ready.ensures) arc_value (string_bytes c.args.prepared.now.name) c.list_ready.result (rw (c.name-name.ensures, c.deref-2.ensures.value) at c.list_ready.ensures.stands)

pub returns-clause-shows : goal.returns-clause-shows
returns-clause-shows g c = λ images shows.
    image_due _ _ (ap ready_bytes c.in_ok-ready.ensures) (string_bytes c.args.prepared.now.name) (λ i. ShowImages (map arc_value c.list_ready.new.self.entries.items) (images ++ i ∷ [])) c.list_ready.result
    ((rw (c.name-name.ensures, c.deref-2.ensures.value) at c.list_ready.ensures.shows) images shows)

pub returns-clause-keeps : goal.returns-clause-keeps
returns-clause-keeps g c = λ images file stand due here.
    let bytes = c.in_ok-ready.ready.now.bytes.items in
    let same : file ≡ bytes = ok_is file bytes (sym due ∙ ap ready_bytes c.in_ok-ready.ensures) in
    subst
    (λ f. IfOk c.list_ready.result (λ e. (i : Image) × StandForImages g.S.Shelf.keeps (map arc_value c.list_ready.new.self.entries.items) c.list_ready.new.self.shelf (images ++ i ∷ [])
    × (i.name ≡ string_bytes c.args.prepared.now.name) × (i.file ≡ f)))
    (sym same)
    ((rw (c.name-name.ensures, c.deref-2.ensures.value) at c.list_ready.ensures.keeps) images stand (here ∙ ap Some same))

pub returns-clause-cause : goal.returns-clause-cause
returns-clause-cause g c =
    cause_listed (λ e. due_beside (map arc_value c.args.self.now.entries.items) c.args.prepared.now ≡ Err e) c.list_ready.result c.list_ready.ensures.cause

pub returns-in_err-judge_beside-clause-judged : goal.returns-in_err-judge_beside-clause-judged
returns-in_err-judge_beside-clause-judged g c = λ e due.
    let entries = map arc_value c.args.self.now.entries.items in
    let fault = c.in_err-judge_beside.field-0.0 in
    let judged = sym (rw (c.deref.ensures.value, c.name-name.ensures) at c.in_err-judge_beside.ensures.exact) in
    passed_on c.from_residual.result fault e (due_beside entries c.args.prepared.now) c.from_residual.ensures.1
    (added_refused entries (string_bytes c.args.prepared.now.name) (ready_bytes c.args.prepared.now.made) fault judged) due

pub returns-in_err-ready-clause-judged : goal.returns-in_err-ready-clause-judged
returns-in_err-ready-clause-judged g c = λ e due.
    let entries = map arc_value c.args.self.now.entries.items in
    let made = c.args.prepared.now.made in
    let judged = sym (rw (c.deref.ensures.value, c.name-name.ensures) at c.in_ok-judge_beside.ensures.exact) in
    passed_on c.from_residual-in_err-ready.result c.in_err-ready.field-0.0 e (due_beside entries c.args.prepared.now) c.from_residual-in_err-ready.ensures.1
    (added_judged entries (string_bytes c.args.prepared.now.name) (ready_bytes made) judged ∙ ap ready_bytes c.in_err-ready.ensures) due

pub returns-in_err-judge_beside-clause-cause : goal.returns-in_err-judge_beside-clause-cause
returns-in_err-judge_beside-clause-cause g c =
    let entries = map arc_value c.args.self.now.entries.items in
    let fault = c.in_err-judge_beside.field-0.0 in
    let judged = sym (rw (c.deref.ensures.value, c.name-name.ensures) at c.in_err-judge_beside.ensures.exact) in
    fault_is c.from_residual.result fault c.from_residual.ensures.1 (λ e. IsMemory e ⊎ (due_beside entries c.args.prepared.now ≡ Err e))
    (inr (added_refused entries (string_bytes c.args.prepared.now.name) (ready_bytes c.args.prepared.now.made) fault judged))

pub returns-in_err-ready-clause-cause : goal.returns-in_err-ready-clause-cause
returns-in_err-ready-clause-cause g c =
    let entries = map arc_value c.args.self.now.entries.items in
    let made = c.args.prepared.now.made in
    let judged = sym (rw (c.deref.ensures.value, c.name-name.ensures) at c.in_ok-judge_beside.ensures.exact) in
    fault_is c.from_residual-in_err-ready.result c.in_err-ready.field-0.0 c.from_residual-in_err-ready.ensures.1 (λ e. IsMemory e ⊎ (due_beside entries c.args.prepared.now ≡ Err e))
    (inr (added_judged entries (string_bytes c.args.prepared.now.name) (ready_bytes made) judged ∙ ap ready_bytes c.in_err-ready.ensures))
