use Rattle.std.proofs.Common.{◌≡◌, ◌⊎◌, inl, inr, ℕ, List, None, Result, Err, refl, ap, sym, ◌∙◌, arith}
use Rattle.std.proofs.lemmas.Result.{err_from_is_err_and}
use Rattle.jk_math.specs.Answer.{Refuses}
use Rattle.jk_math.specs.Memory.{IsMemory}
use Rattle.jk_math.specs.Steps.{answers_same, refuses_due}
use Rattle.jk_math.specs.Picture.{Picture}
use Rattle.jk_math.specs.declared.fault.Fault.{Fault}
use Rattle.jk_math.specs.declared.fault.Fault.TheVariants.{Memory, BadWindow, Changed}
use Rattle.jk_window.specs.declared.view.View.{View}
use Rattle.jk_window.specs.Views.{HasArea}
use Rattle.jk_code.specs.Viewing.{picture_of_view}
use Rattle.jk_code.specs.ViewReading.{meaning_view_at}
use Rattle.jk_code.proofs.MeaningLaws.{only_meaning}
use Rattle.jk_code.proofs.ViewLaws.{meaning_shows}
use Rattle.jk_code.proofs.ViewAgain.{window_kept, window_unseen, all_shown}
use Rattle.jk_code.proofs.viewing.decode_window_by.Goals as goal

memory_refused : {A : Type 0} (e : Fault) (due : Result A Fault) → IsMemory e → Refuses e due
memory_refused (Memory r) due h = tt
memory_refused e due h = absurd h

-- what is refused of a view is due
refused : (e : Fault) (due : Result Picture Fault) → IsMemory e ⊎ ((e ≡ BadWindow) ⊎ (e ≡ Changed)) → (e ≡ BadWindow → due ≡ Err e) → (e ≡ Changed → ⊥) → Refuses e due
refused e due faults bad changed = elim faults [
  | inl memory ↦ memory_refused e due memory
  | inr other ↦ elim other [
    | inl is ↦ refuses_due e due (bad is)
    | inr is ↦ absurd (changed is)
  ]
]

pub returns-in_err-file-clause-exact : goal.returns-in_err-file-clause-exact
returns-in_err-file-clause-exact c = λ is.
    let bytes = c.args.bytes.now in
    let i = c.args.index.now in
    let v = c.args.view in
    let e = c.in_err-file.field-0.0 in
    let q = err_from_is_err_and c.from_residual.result c.from_residual.ensures.1 in
    rw (q.1, q.2) (refused e (meaning_view_at bytes v) c.in_err-file.ensures.faults
    (λ bad. window_unseen bytes i is v (λ (a : HasArea i.headers v). c.in_err-file.ensures.unseen (ap Err bad)
    (record { layers = refl; area = record { levels = a.levels; image = a.image; window = a.window } })) ∙ ap Err (sym bad))
    (λ other. c.in_err-file.ensures.changed (ap Err other) is))

pub returns-in_err-file-clause-means : goal.returns-in_err-file-clause-means
returns-in_err-file-clause-means c = λ is p m.
    let bytes = c.args.bytes.now in
    let v = c.args.view in
    answers_same (λ i. i) c.from_residual.result (meaning_view_at bytes v) (picture_of_view v p) (returns-in_err-file-clause-exact c is)
    (meaning_shows bytes v p (only_meaning bytes v.reduce p (λ i. omega (arith, c.type_inv.bytes i)) m))

pub returns-in_err-file-clause-planned : goal.returns-in_err-file-clause-planned
returns-in_err-file-clause-planned c =
    let q = err_from_is_err_and c.from_residual.result c.from_residual.ensures.1 in
    inl (q.0, q.1, rw (q.2) c.in_err-file.ensures.faults)

pub returns-clause-planned : goal.returns-clause-planned
returns-clause-planned c =
    let whole : View = record c.args.view { layers = None } in
    inr (c.in_ok-file.file.items, c.in_ok-file.ensures.planned, rw c.deref.ensures.value at c.decode_window.ensures.exact)

pub returns-clause-exact : goal.returns-clause-exact
returns-clause-exact c = λ is.
    let bytes = c.args.bytes.now in
    let v = c.args.view in
    let whole : View = record v { layers = None } in
    answers_same (λ i. i) c.decode_window.result (meaning_view_at c.deref.result.now whole) (meaning_view_at bytes v) c.decode_window.ensures.exact
    (ap (λ (file : List ℕ). meaning_view_at file whole) c.deref.ensures.value ∙ window_kept bytes c.args.index.now is whole c.in_ok-file.file.items refl (c.in_ok-file.ensures.exact is)
    ∙ all_shown bytes v)

pub returns-clause-means : goal.returns-clause-means
returns-clause-means c = λ is p m.
    let bytes = c.args.bytes.now in
    let v = c.args.view in
    answers_same (λ i. i) c.decode_window.result (meaning_view_at bytes v) (picture_of_view v p) (returns-clause-exact c is)
    (meaning_shows bytes v p (only_meaning bytes v.reduce p (λ i. omega (arith, c.type_inv.bytes i)) m))
