use Rattle.std.proofs.Common.{◌∙◌}
use Rattle.jk_store.proofs.OpenLaws.{gives}
use Rattle.jk_store.proofs.OpenWithLaws.{can_be_made}
use Rattle.jk_store.proofs.opening.read_named.Goals as goal

pub returns-clause-given : goal.returns-clause-given
returns-clause-given g c =
    let read = c.in_ok-bytes.ensures in
    let name = c.as_str.ensures.value ∙ c.in_ok-file.ensures.ok in
    gives g.S.Shelf.keeps g.S.Shelf.gave c.args.shelf.now c.read.new.self c.as_str.result.now _ c.in_ok-bytes.bytes.items name read.given read.same read.kept read.held

pub returns-clause-seen : goal.returns-clause-seen
returns-clause-seen g c = can_be_made c.in_ok-name.name c.in_ok-bytes.bytes (rw c.deref.ensures.value at c.fit.ensures)
