use Rattle.std.proofs.Common.{◌∙◌}
use Rattle.jk_store.proofs.CheckLaws.{asked_of}
use Rattle.jk_store.proofs.checking.read_file.Goals as goal

pub returns-clause-asked : goal.returns-clause-asked
returns-clause-asked g c =
    let read = c.read-bytes.ensures in
    let name = c.as_str.ensures.value ∙ c.in_ok-file.ensures.ok in
    asked_of g.S.Shelf.keeps g.S.Shelf.gave g.S.Shelf.unread c.args.shelf.now c.read-bytes.new.self c.args.name.now c.as_str.result.now _ _ c.read-bytes.result name
    read.given read.kept read.same read.held read.cause read.counts
