use Rattle.std.proofs.Common.{refl, Ok}
use Rattle.jk_store.proofs.AddLaws.{stored}
use Rattle.jk_store.proofs.putting.store_new.Goals as goal

pub returns-then-branch-clause-ok : goal.returns-then-branch-clause-ok
returns-then-branch-clause-ok g c = λ files kept.
    stored g.S.Shelf.keeps c.write.new.self c.place.new.self (Ok tt) c.as_str.result.now c.as_str-2.result.now c.as_str-3.result.now c.args.bytes.now _ _ _
    c.as_str.ensures.value c.as_str-2.ensures.value c.as_str-3.ensures.value refl files (c.in_ok-write.ensures.ok files kept) (λ fs b k is. c.in_ok-place.ensures.ok fs b k is c.if-branch.true)
