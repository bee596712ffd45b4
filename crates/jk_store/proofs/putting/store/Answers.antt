use Rattle.std.proofs.Common.{refl}
use Rattle.jk_store.proofs.AddLaws.{stored, stored_left}
use Rattle.jk_store.proofs.putting.store.Goals as goal

pub returns-clause-ok : goal.returns-clause-ok
returns-clause-ok g c = λ files kept.
    stored g.S.Shelf.keeps c.write.new.self c.rename.new.self c.rename.result c.as_str.result.now c.as_str-2.result.now c.as_str-3.result.now c.args.bytes.now _ _ _
    c.as_str.ensures.value c.as_str-2.ensures.value c.as_str-3.ensures.value refl files (c.in_ok-write.ensures.ok files kept) c.rename.ensures.ok

pub returns-clause-left : goal.returns-clause-left
returns-clause-left g c = λ other files kept.
    stored_left g.S.Shelf.keeps c.write.new.self c.rename.new.self c.rename.result c.as_str.result.now c.as_str-2.result.now c.as_str-3.result.now c.args.bytes.now _ _ _
    c.as_str.ensures.value c.as_str-2.ensures.value c.as_str-3.ensures.value refl other files (c.in_ok-write.ensures.ok files kept) c.rename.ensures.whole
