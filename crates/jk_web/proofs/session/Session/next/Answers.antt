use Rattle.std.proofs.Common.{inr, List, ℕ, Some, drop, sym, ap, ◌∙◌, subst, arith}
use Rattle.std.proofs.lemmas.List.{take_all, length-drop}
use Rattle.jk_web.specs.Heads.{IsBad}
use Rattle.jk_web.specs.Unread.{Unread, bad}
use Rattle.jk_web.specs.Registers.{reason_of}
use Rattle.jk_web.proofs.session.Session.next.Goals as goal

pub returns-in-Bad-clause-bad : goal.returns-in-Bad-clause-bad
returns-in-Bad-clause-bad c = (
  ap (λ (u : Unread). record u { stuck = Some (bad c.in-Bad.status) }) c.self.view_is,
  inr (
    sym (ap (λ (u : Unread). u.stuck) c.self.view_is) ∙ ap reason_of c.in-None.is,
    subst (λ (rest : List ℕ). IsBad rest c.in-Bad.status)
        (take_all _ (drop c.self.inside.start c.deref.result.now) (omega (arith, length-drop c.self.inside.start c.deref.result.now))
        ∙ ap (drop c.self.inside.start) c.deref.ensures.value ∙ ap (λ (u : Unread). u.rest) c.self.view_is) c.in-Bad.ensures.bad,
  ),
)
