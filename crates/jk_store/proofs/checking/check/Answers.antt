use Rattle.std.proofs.Common.{◌≡◌, map, true, sym, ◌∙◌}
use Rattle.std.specs.BTreeSet.{keys}
use Rattle.std.specs.String.{string_bytes}
use Rattle.jk_store.specs.Files.{is_among}
use Rattle.jk_store.specs.Names.{file_name}
use Rattle.jk_store.proofs.CheckLaws.{checks_as, finds_kept}
use Rattle.jk_store.proofs.OpenLaws.{names_are, image_listed}
use Rattle.jk_store.proofs.checking.check.Goals as goal

pub returns-clause-checked : goal.returns-clause-checked
returns-clause-checked g c =
    let files = c.in_ok-files.files.items in
    let names = c.in_ok-names.names in
    let are = names_are files names c.check_images.ensures.ordered (rw c.deref.ensures.value at c.in_ok-names.ensures.ok) in
    checks_as g.S.Shelf.keeps g.S.Shelf.gave g.S.Shelf.unread g.S.Shelf.lists c.args.blocks (map string_bytes files) (map string_bytes (keys names))
    c.args.shelf.now c.list.new.self c.check_images.new.shelf c.check_images.result c.in_ok-files.ensures.given are c.check_images.ensures.checked

pub returns-clause-found : goal.returns-clause-found
returns-clause-found g c = λ all n b kept good there.
    let files = c.in_ok-files.files.items in
    let names = c.in_ok-names.names in
    let are = names_are files names c.check_images.ensures.ordered (rw c.deref.ensures.value at c.in_ok-names.ensures.ok) in
    let among : is_among n (map string_bytes (keys names)) ≡ true =
    are.all n ∙ (image_listed n (map string_bytes files) good ∙ c.in_ok-files.ensures.found all (file_name n) b kept there) in
    finds_kept g.S.Shelf.keeps g.S.Shelf.gave g.S.Shelf.unread c.args.blocks all n b there (map string_bytes (keys names)) c.list.new.self c.check_images.new.shelf
    c.check_images.result c.check_images.ensures.checked (c.in_ok-files.ensures.kept all kept) among
