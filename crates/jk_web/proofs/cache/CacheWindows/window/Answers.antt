use Rattle.std.proofs.Common.{ℕ, ◌≤◌, List, length, inl, inr, ⊎_elim, sym, ap, ◌∙◌, subst}
use Rattle.jk_web.specs.Images.{image_of}
use Rattle.jk_web.specs.Cuts.{KeptCut, Has}
use Rattle.jk_web.specs.Keys.{asked_of, kept_in, most_kept}
use Rattle.jk_web.proofs.CacheLaws.{same_has, cut_or_made}
use Rattle.jk_web.proofs.cache.CacheWindows.window.Goals as goal

pub returns-in_err-kept-clause-has : goal.returns-in_err-kept-clause-has
returns-in_err-kept-clause-has g c = λ n a b h. inl (subst (λ (kept : List KeptCut). Has kept n a b) c.self.view_is (c.look.ensures.kept n a b h))

pub returns-in-Some-clause-gives : goal.returns-in-Some-clause-gives
returns-in-Some-clause-gives g c = λ images stands held.
    let found = rw c.in-Some.is at c.in_ok-kept.ensures.found in
    let has = same_has (kept_in c.self.inside.cuts.entries) c.args.self.now c.in_ok-key.key.name.items c.args.name.now (asked_of c.in_ok-key.key) c.args.asked c.in-Some.kept.items
    c.self.view_is c.in_ok-key.ensures.name c.in_ok-key.ensures.asked found in
    cut_or_made (image_of c.args.name.now images) (g.C.Catalogue.made c.args.catalogue.now c.args.name.now c.args.asked c.in-Some.kept.items) c.args.asked c.in-Some.kept.items
    (held c.args.name.now c.args.asked c.in-Some.kept.items has)

pub returns-in-Some-clause-has : goal.returns-in-Some-clause-has
returns-in-Some-clause-has g c = λ n a b h. inl (subst (λ (kept : List KeptCut). Has kept n a b) c.self.view_is (c.look.ensures.kept n a b h))

pub returns-in_err-cut-clause-has : goal.returns-in_err-cut-clause-has
returns-in_err-cut-clause-has g c = λ n a b h. inl (subst (λ (kept : List KeptCut). Has kept n a b) c.self.view_is (c.look.ensures.kept n a b h))

pub invariant_of-self-2 : goal.invariant_of-self-2
invariant_of-self-2 g c = λ k h. ⊎_elim
    (λ old. c.self.invariant k (c.look.ensures.kept k.name k.asked k.cut old))
    (λ new. subst (λ (l : List ℕ). length l ≤ most_kept) (sym (ap (λ (x : KeptCut). x.cut) new.0)) new.1)
    (c.store.ensures k.name k.asked k.cut h)

pub returns-clause-gives : goal.returns-clause-gives
returns-clause-gives g c = λ images stands held.
    cut_or_made (image_of c.args.name.now images) (g.C.Catalogue.made c.window.new.self c.args.name.now c.args.asked c.in_ok-cut.cut.items) c.args.asked c.in_ok-cut.cut.items
    c.in_ok-cut.ensures.made

pub returns-clause-has : goal.returns-clause-has
returns-clause-has g c = λ n a b h. ⊎_elim
    (λ old. inl (subst (λ (kept : List KeptCut). Has kept n a b) c.self.view_is (c.look.ensures.kept n a b old)))
    (λ new. inr (
      ap (λ (x : KeptCut). x.name) new.0 ∙ c.in_ok-key.ensures.name,
      ap (λ (x : KeptCut). x.asked) new.0 ∙ c.in_ok-key.ensures.asked,
      ap (λ (x : KeptCut). x.cut) new.0,
    ))
    (c.store.ensures n a b h)

pub returns-in_err-cut-clause-unread : goal.returns-in_err-cut-clause-unread
returns-in_err-cut-clause-unread g c = λ b h.
    absurd ((rw c.in_default.is at c.in_ok-kept.ensures.none) b
    (same_has c.args.self.now (kept_in c.self.inside.cuts.entries) c.args.name.now c.in_ok-key.key.name.items c.args.asked (asked_of c.in_ok-key.key) b
    (sym c.self.view_is) (sym c.in_ok-key.ensures.name) (sym c.in_ok-key.ensures.asked) h))

pub returns-clause-unread : goal.returns-clause-unread
returns-clause-unread g c = λ b h.
    absurd ((rw c.in_default.is at c.in_ok-kept.ensures.none) b
    (same_has c.args.self.now (kept_in c.self.inside.cuts.entries) c.args.name.now c.in_ok-key.key.name.items c.args.asked (asked_of c.in_ok-key.key) b
    (sym c.self.view_is) (sym c.in_ok-key.ensures.name) (sym c.in_ok-key.ensures.asked) h))
