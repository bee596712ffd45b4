use Rattle.std.proofs.Common.{◌≡◌, Some, map, inl, inr, sym, ap, ◌∙◌}
use Rattle.std.specs.Arc.{arc_value}
use Rattle.jk_math.specs.Steps.{if_ok}
use Rattle.jk_catalogue.specs.Images.{image_of}
use Rattle.jk_store.specs.Catalogue.{entry_of}
use Rattle.jk_store.specs.Showing.{Broke, ReadsFile}
use Rattle.jk_store.proofs.ShowingLaws.{absent_image, shown_at, kept_file, keeps_on, whole_given, whole_kept}
use Rattle.jk_store.proofs.showing.whole_of.Goals as goal

pub returns-in-Some-clause-gives : goal.returns-in-Some-clause-gives
returns-in-Some-clause-gives g c = λ images shows.
    let entries = map arc_value c.args.entries.now in
    let n = c.args.name.now in
    let e = c.deref.result.now in
    let is : entry_of entries n ≡ Some e = sym c.in-Some.ensures ∙ ap Some (sym c.deref.ensures) in
    let at = shown_at n entries e images shows is in
    whole_given (image_of n images) at.image (λ f. ReadsFile g.S.Shelf.gave entries c.args.shelf.now n f c.whole.new.shelf) (Broke g.S.Shelf.failed g.S.Shelf.gave g.S.Shelf.gave_at entries c.args.shelf.now n c.whole.new.shelf)
    c.whole.result (g.S.Shelf.failed c.args.shelf.now) (g.S.Shelf.failed c.whole.new.shelf) at.is
    (if_ok c.whole.result (λ f read. (e, is, read)) c.whole.ensures.given)
    (λ x. inr (e, is, inl (c.whole.ensures.changed x))) c.whole.ensures.counts (λ failed. inl failed)

pub returns-in-Some-clause-same : goal.returns-in-Some-clause-same
returns-in-Some-clause-same g c = λ images shows kept.
    let entries = map arc_value c.args.entries.now in
    let n = c.args.name.now in
    let e = c.deref.result.now in
    let is : entry_of entries n ≡ Some e = sym c.in-Some.ensures ∙ ap Some (sym c.deref.ensures) in
    let at = shown_at n entries e images shows is in
    whole_kept (image_of n images) at.image c.whole.result at.is
    (c.whole.ensures.same kept.files at.image.file kept.keeps_files (kept_file g.S.Shelf.keeps c.args.shelf.now n images at.image e kept at.is at.shows))

pub returns-in-Some-clause-keeps : goal.returns-in-Some-clause-keeps
returns-in-Some-clause-keeps g c = λ images. keeps_on g.S.Shelf.keeps c.args.shelf.now c.whole.new.shelf images c.whole.ensures.kept

pub returns-in-None-clause-gives : goal.returns-in-None-clause-gives
returns-in-None-clause-gives g c = λ images shows. absent_image c.args.name.now (map arc_value c.args.entries.now) images shows (sym c.in-None.ensures)
