use Rattle.std.proofs.Common.{inl, inr, refl}
use Rattle.jk_store.specs.Digesting.{entry_due}
use Rattle.jk_store.proofs.opening.enter.Goals as goal

pub returns-in_ok-take-in-Due-clause-given : goal.returns-in_ok-take-in-Due-clause-given
returns-in_ok-take-in-Due-clause-given g c =
    let given = rw c.in-Due.is at c.in_ok-file.ensures.given in
    (given.0, given.1, inl (entry_due c.in-Due.file, given.2, c.in_ok-take-in-Due.ensures.more, refl))

pub returns-in_ok-push-in-Passed-clause-given : goal.returns-in_ok-push-in-Passed-clause-given
returns-in_ok-push-in-Passed-clause-given g c =
    let given = rw c.in-Passed.is at c.in_ok-file.ensures.given in
    (given.0, given.1, inr (c.in-Passed.file, given.2, c.in_ok-push-in-Passed.ensures.items, refl))

pub returns-then-is_full-clause-full : goal.returns-then-is_full-clause-full
returns-then-is_full-clause-full g c = λ _.
    let given = rw c.in-Due.is at c.in_ok-file.ensures.given in
    (c.is_full.ensures.yes c.if-is_full.true, (given.0, entry_due c.in-Due.file, given.1, given.2))
