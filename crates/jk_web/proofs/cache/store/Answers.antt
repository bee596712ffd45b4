use Rattle.std.proofs.Common.{inl, inr, ⊎_elim, ◌∙◌, ap, arith}
use Rattle.jk_web.specs.Cuts.{kept_cut}
use Rattle.jk_web.specs.Keys.{asked_of}
use Rattle.jk_web.proofs.cache.store.Goals as goal

pub returns-in-Ok : goal.returns-in-Ok
returns-in-Ok c = λ n a b h. ⊎_elim
    (λ old. inl old)
    (λ new. inr (new ∙ ap (kept_cut c.args.key.name.items (asked_of c.args.key)) c.in-Ok.ensures, omega arith))
    (c.keep.ensures n a b h)
