use Rattle.std.proofs.Common.{◌≡◌, ◌*◌, refl, ap, ◌∙◌}
use Rattle.jk_store.specs.Parts.{part_length}
use Rattle.jk_store.specs.PartsGiven.{size_of}
use Rattle.jk_store.proofs.GivenLaws.{was_asked, one_read, other_read}
use Rattle.jk_store.proofs.reading.read_part.Goals as goal

pub returns-then-not-is_part-clause-refused : goal.returns-then-not-is_part-clause-refused
returns-then-not-is_part-clause-refused g c =
    let e = c.args.entry.now in
    let i = c.args.number in
    let read = c.in_ok-bytes.ensures in
    let b = c.in_ok-bytes.bytes.items in
    let most : c.min-most.result ≡ part_length (size_of e) i = c.min-most.ensures ∙ ap (λ n. part_length n i) c.requires.reading.sized in
    let asked = was_asked g.S.Shelf.keeps g.S.Shelf.gave_at g.S.Shelf.failed e c.args.shelf.now c.read_at.new.self i b c.as_str.result.now (i * 16384) c.min-most.result
    (c.as_str.ensures.value ∙ c.requires.reading.named) refl most read.given read.kept read.same read.counts.0 in
    other_read g.S.Shelf.keeps g.S.Shelf.gave_at g.S.Shelf.failed e c.args.shelf.now c.read_at.new.self i b c.requires.there asked
    (rw c.deref.ensures.value at c.is_part.ensures.no c.if-not-is_part.true)

pub returns-clause-read : goal.returns-clause-read
returns-clause-read g c =
    let e = c.args.entry.now in
    let i = c.args.number in
    let read = c.in_ok-bytes.ensures in
    let b = c.in_ok-bytes.bytes.items in
    let most : c.min-most.result ≡ part_length (size_of e) i = c.min-most.ensures ∙ ap (λ n. part_length n i) c.requires.reading.sized in
    let asked = was_asked g.S.Shelf.keeps g.S.Shelf.gave_at g.S.Shelf.failed e c.args.shelf.now c.read_at.new.self i b c.as_str.result.now (i * 16384) c.min-most.result
    (c.as_str.ensures.value ∙ c.requires.reading.named) refl most read.given read.kept read.same read.counts.0 in
    one_read g.S.Shelf.keeps g.S.Shelf.gave_at g.S.Shelf.failed e c.args.shelf.now c.read_at.new.self i b asked
    (rw c.deref.ensures.value at c.is_part.ensures.yes c.if-not-is_part.false)
