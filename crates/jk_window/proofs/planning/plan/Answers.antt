use Rattle.std.proofs.Common.{◌≡◌, ◌∙◌, ◌⊎◌, List, ℕ, sym, ap, subst, inl, inr, Ok, Err}
use Rattle.std.specs.Prelude.{OnOk, IfOk, IfErr, MatchResult, Result}
use Rattle.std.proofs.lemmas.Result.{err_from_is_err_and}
use Rattle.jk_math.specs.Answer.{◌>>=◌}
use Rattle.jk_math.specs.Steps.{if_ok}
use Rattle.jk_math.specs.Memory.{IsMemory}
use Rattle.jk_math.specs.declared.rect.Rect.{Rect}
use Rattle.jk_marks.specs.Codestream.{codestream_text}
use Rattle.jk_math.specs.declared.fault.Fault.{Fault}
use Rattle.jk_params.specs.Headers.{Headers}
use Rattle.jk_window.specs.Views.{HasWindow, window_at}
use Rattle.jk_window.specs.Cutting.{cut_file, cut_tree, with_codestream}
use Rattle.jk_window.specs.Planning.{PlanFields, plan_text, made_of}
use Rattle.jk_window.proofs.BoxLaws.{due_is}
use Rattle.jk_window.proofs.FramedFile.{made_is}
use Rattle.jk_window.proofs.Levels.{window_found, window_only, window_refused}
use Rattle.jk_window.proofs.planning.plan.Goals as goal

pub returns-in_err-window-clause-exact : goal.returns-in_err-window-clause-exact
returns-in_err-window-clause-exact c = λ file is.
    let v = c.args.view in
    let q = err_from_is_err_and c.from_residual.result c.from_residual.ensures.1 in
    let due : window_at c.args.index.now.headers v ≡ Err c.in_err-window.field-0.0 = sym (ap (λ (x : Headers). window_at x v) c.headers.ensures.value) ∙ sym c.in_err-window.ensures.exact in
    rw (q.1, q.2) (inr (ap (λ (r : Result Rect Fault). r >>= λ w. with_codestream is.holds (codestream_text (cut_tree is w v))) due))

pub returns-in_err-window-clause-unseen : goal.returns-in_err-window-clause-unseen
returns-in_err-window-clause-unseen c = λ unseen.
    let q = err_from_is_err_and c.from_residual.result c.from_residual.ensures.1 in
    q.1 ∙ ap (λ (e : Fault). Err e) (q.2 ∙ window_refused c.headers.result.now c.args.view c.in_err-window.field-0.0 (sym c.in_err-window.ensures.exact))

pub returns-in_err-window-clause-bad : goal.returns-in_err-window-clause-bad
returns-in_err-window-clause-bad c = λ e has.
    let due = sym c.in_err-window.ensures.exact in
    let found = sym due ∙ window_only c.headers.result.now c.args.view c.headers.ensures.sound.tiles (rw c.headers.ensures.value has) in
    absurd cc

pub returns-in_err-window-clause-faults : goal.returns-in_err-window-clause-faults
returns-in_err-window-clause-faults c =
    let q = err_from_is_err_and c.from_residual.result c.from_residual.ensures.1 in
    rw (q.1, q.2) (inr (window_refused c.headers.result.now c.args.view c.in_err-window.field-0.0 (sym c.in_err-window.ensures.exact)))

-- what is planned is due
planned_due : (r : Result PlanFields Fault) (file : List ℕ) (made due : Result (List ℕ) Fault) → due ≡ made → IfOk r (λ p. made ≡ Ok (plan_text file p)) → IfErr r IsMemory
    → MatchResult r (λ p. due ≡ Ok (plan_text file p)) (λ e. IsMemory e ⊎ (due ≡ Err e))
planned_due (Ok p) file made due same ok err = same ∙ ok
planned_due (Err e) file made due same ok err = inl err

pub returns-clause-exact : goal.returns-clause-exact
returns-clause-exact c = λ file is.
    let i = c.args.index.now in
    let v = c.args.view in
    let w = c.in_ok-window.window in
    let due = due_is file i v c.headers.result.now w is c.headers.ensures.value c.in_ok-window.ensures.exact in
    planned_due c.plan_file.result file (made_of file i w v) (cut_file is v) (due ∙ sym (made_is file i is w v)) (if_ok c.plan_file.result (λ p made. made file is) c.plan_file.ensures.plan) c.plan_file.ensures.err

pub returns-clause-seen : goal.returns-clause-seen
returns-clause-seen c =
    let found = window_found c.headers.result.now c.args.view c.in_ok-window.window c.headers.ensures.sound.tiles (sym c.in_ok-window.ensures.exact) in
    on_ok c.plan_file.result (subst (λ (x : Headers). HasWindow x c.args.view) c.headers.ensures.value found.0)
  where
    on_ok : {A : Type 0} {P : Type 0} (r : Result A Fault) → P → OnOk r P
    on_ok (Ok x) p = p
    on_ok (Err e) p = tt

pub returns-clause-unseen : goal.returns-clause-unseen
returns-clause-unseen c = λ unseen.
    let found = window_found c.headers.result.now c.args.view c.in_ok-window.window c.headers.ensures.sound.tiles (sym c.in_ok-window.ensures.exact) in
    absurd (unseen (subst (λ (x : Headers). HasWindow x c.args.view) c.headers.ensures.value found.0))
