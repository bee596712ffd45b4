use Rattle.std.proofs.Common.{map, Err, ap}
use Rattle.std.specs.Arc.{arc_value}
use Rattle.std.specs.BTreeSet.{keys}
use Rattle.std.specs.String.{string_bytes}
use Rattle.jk_store.specs.Names.{file_name}
use Rattle.jk_store.proofs.OpenLaws.{names_are}
use Rattle.jk_store.proofs.OpenedLaws.{are_so_named, opens_as, is_found, stand, show, stand_shown, unopened}
use Rattle.jk_store.proofs.opening.Images.read.Goals as goal

pub returns-in_err-made-clause-err : goal.returns-in_err-made-clause-err
returns-in_err-made-clause-err g c =
    let files = c.in_ok-files.files.items in
    let names = c.in_ok-names.names in
    let are = names_are files names c.in_err-made.ensures.ordered (rw c.deref.ensures.value at c.in_ok-names.ensures.ok) in
    unopened g.S.Shelf.keeps g.S.Shelf.gave g.S.Shelf.lists (map string_bytes files) (map string_bytes (keys names)) c.args.shelf.now c.list.new.self c.in_ok-files.ensures.given are
    g.S.Shelf.unlisted g.S.Shelf.unread c.in_err-made.field-0.0 _ _ c.from_residual-in_err-made.result c.from_residual-in_err-made.ensures.1
    c.in_err-made.ensures.counts (λ limit. c.in_err-made.ensures.full (ap Err limit)) c.in_err-made.ensures.cause

pub invariant_of-result : goal.invariant_of-result
invariant_of-result g c =
    let images = c.in_ok-made.made in
    let files = c.in_ok-files.files.items in
    let names = c.in_ok-names.names in
    let are = names_are files names c.in_ok-made.ensures.ordered (rw c.deref.ensures.value at c.in_ok-names.ensures.ok) in
    record {
      named = are_so_named g.S.Shelf.keeps g.S.Shelf.gave g.S.Shelf.lists (map string_bytes files) (map string_bytes (keys names)) c.args.shelf.now c.list.new.self c.in_ok-files.ensures.given are
          (map arc_value images.entries.items) images.skipped.items c.read_images.new.shelf c.in_ok-made.ensures.opened;
      few = c.in_ok-made.ensures.few;
    }

pub returns-clause-opened : goal.returns-clause-opened
returns-clause-opened g c =
    let images = c.in_ok-made.made in
    let files = c.in_ok-files.files.items in
    let names = c.in_ok-names.names in
    let are = names_are files names c.in_ok-made.ensures.ordered (rw c.deref.ensures.value at c.in_ok-names.ensures.ok) in
    opens_as g.S.Shelf.keeps g.S.Shelf.gave g.S.Shelf.lists (map string_bytes files) (map string_bytes (keys names)) c.args.shelf.now c.list.new.self c.in_ok-files.ensures.given are
    (map arc_value images.entries.items) images.skipped.items c.read_images.new.shelf c.in_ok-made.ensures.opened

pub returns-clause-found : goal.returns-clause-found
returns-clause-found g c = λ all n b i kept good there image.
    let images = c.in_ok-made.made in
    let files = c.in_ok-files.files.items in
    let names = c.in_ok-names.names in
    let are = names_are files names c.in_ok-made.ensures.ordered (rw c.deref.ensures.value at c.in_ok-names.ensures.ok) in
    is_found g.S.Shelf.keeps g.S.Shelf.gave g.S.Shelf.lists (map string_bytes files) (map string_bytes (keys names)) c.args.shelf.now c.list.new.self c.in_ok-files.ensures.given are
    (map arc_value images.entries.items) images.skipped.items c.read_images.new.shelf c.in_ok-made.ensures.opened all n b i (c.in_ok-files.ensures.kept all kept) good there image
    (c.in_ok-files.ensures.found all (file_name n) b kept there)

pub returns-clause-stands : goal.returns-clause-stands
returns-clause-stands g c = λ all kept.
    let images = c.in_ok-made.made in
    let files = c.in_ok-files.files.items in
    let names = c.in_ok-names.names in
    let are = names_are files names c.in_ok-made.ensures.ordered (rw c.deref.ensures.value at c.in_ok-names.ensures.ok) in
    stand g.S.Shelf.keeps g.S.Shelf.gave g.S.Shelf.lists (map string_bytes files) (map string_bytes (keys names)) c.args.shelf.now c.list.new.self c.in_ok-files.ensures.given are
    (map arc_value images.entries.items) images.skipped.items c.read_images.new.shelf c.in_ok-made.ensures.opened all (c.in_ok-files.ensures.kept all kept)

pub returns-clause-shows : goal.returns-clause-shows
returns-clause-shows g c =
    let images = c.in_ok-made.made in
    let files = c.in_ok-files.files.items in
    let names = c.in_ok-names.names in
    let are = names_are files names c.in_ok-made.ensures.ordered (rw c.deref.ensures.value at c.in_ok-names.ensures.ok) in
    show g.S.Shelf.keeps g.S.Shelf.gave g.S.Shelf.lists (map string_bytes files) (map string_bytes (keys names)) c.args.shelf.now c.list.new.self c.in_ok-files.ensures.given are
    (map arc_value images.entries.items) images.skipped.items c.read_images.new.shelf c.in_ok-made.ensures.opened

pub returns-clause-shown : goal.returns-clause-shown
returns-clause-shown g c = λ all kept.
    let images = c.in_ok-made.made in
    let files = c.in_ok-files.files.items in
    let names = c.in_ok-names.names in
    let are = names_are files names c.in_ok-made.ensures.ordered (rw c.deref.ensures.value at c.in_ok-names.ensures.ok) in
    stand_shown g.S.Shelf.keeps g.S.Shelf.gave g.S.Shelf.lists (map string_bytes files) (map string_bytes (keys names)) c.args.shelf.now c.list.new.self c.in_ok-files.ensures.given are
    (map arc_value images.entries.items) images.skipped.items c.read_images.new.shelf c.in_ok-made.ensures.opened all (c.in_ok-files.ensures.kept all kept)

pub returns-clause-kept : goal.returns-clause-kept
returns-clause-kept g c = λ all kept. c.in_ok-made.ensures.kept all (c.in_ok-files.ensures.kept all kept)
