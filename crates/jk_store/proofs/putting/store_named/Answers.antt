use Rattle.std.proofs.Common.{Ok}
use Rattle.jk_store.proofs.AddLaws.{names_apart, left_stayed}
use Rattle.jk_store.specs.Names.{temporary_name, file_name}
use Rattle.jk_store.proofs.putting.store_named.Goals as goal

pub returns-in-Replacing-clause-left : goal.returns-in-Replacing-clause-left
returns-in-Replacing-clause-left g c = λ files kept.
    let names = c.in_ok-names.ensures in
    let name = c.args.name.now in
    (rw (names.temporary, names.own) at c.store.ensures.left) (names_apart name name) files kept

pub returns-clause-left : goal.returns-clause-left
returns-clause-left g c = λ files kept.
    let names = c.in_ok-names.ensures in
    let name = c.args.name.now in
    left_stayed g.S.Shelf.keeps c.store_new.new.shelf (temporary_name name) (file_name name) (Ok c.args.bytes.now) c.store_new.result files (names_apart name name)
    ((rw names.temporary at c.store_new.ensures.stays) files kept)

pub returns-clause-free : goal.returns-clause-free
returns-clause-free g c = λ _ files b kept is.
    let names = c.in_ok-names.ensures in
    let name = c.args.name.now in
    (rw (names.temporary, names.own) at c.store_new.ensures.free) (names_apart name name) files b kept is
