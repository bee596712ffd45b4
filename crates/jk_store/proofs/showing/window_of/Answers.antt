use Rattle.std.proofs.Common.{◌≡◌, Some, map, inl, inr, sym, ap, ◌∙◌}
use Rattle.std.specs.Arc.{arc_value}
use Rattle.jk_math.specs.Steps.{if_ok}
use Rattle.jk_catalogue.specs.Images.{image_of}
use Rattle.jk_store.specs.Catalogue.{entry_of}
use Rattle.jk_store.specs.Showing.{Broke, Cuts}
use Rattle.jk_store.proofs.ShowingLaws.{absent_image, shown_at, kept_file, keeps_on, window_given, window_kept}
use Rattle.jk_store.proofs.GivenLaws.{parts_of}
use Rattle.jk_store.proofs.showing.window_of.Goals as goal

pub returns-in-Some-clause-gives : goal.returns-in-Some-clause-gives
returns-in-Some-clause-gives g c = λ images shows.
    let entries = map arc_value c.args.entries.now in
    let n = c.args.name.now in
    let e = c.deref.result.now in
    let is : entry_of entries n ≡ Some e = sym c.in-Some.ensures ∙ ap Some (sym c.deref.ensures) in
    let at = shown_at n entries e images shows is in
    window_given (image_of n images) at.image e c.args.asked (λ cut. Cuts g.S.Shelf.gave_at entries c.args.shelf.now n c.args.asked c.window_by_parts_with.new.shelf cut)
    (Broke g.S.Shelf.failed g.S.Shelf.gave g.S.Shelf.gave_at entries c.args.shelf.now n c.window_by_parts_with.new.shelf)
    c.window_by_parts_with.result (g.S.Shelf.failed c.args.shelf.now) (g.S.Shelf.failed c.window_by_parts_with.new.shelf) at.is at.shows
    (if_ok c.window_by_parts_with.result
    (λ w given. (e, given.0, is, given.1, given.2))
    c.window_by_parts_with.ensures.given)
    c.window_by_parts_with.ensures.bad
    (λ x. inr (e, is, inr (c.window_by_parts_with.ensures.changed x))) c.window_by_parts_with.ensures.counts (λ failed. inl failed)

pub returns-in-Some-clause-same : goal.returns-in-Some-clause-same
returns-in-Some-clause-same g c = λ images shows kept.
    let entries = map arc_value c.args.entries.now in
    let n = c.args.name.now in
    let e = c.deref.result.now in
    let is : entry_of entries n ≡ Some e = sym c.in-Some.ensures ∙ ap Some (sym c.deref.ensures) in
    let at = shown_at n entries e images shows is in
    window_kept (image_of n images) at.image e c.args.asked c.window_by_parts_with.result at.is at.shows
    (c.window_by_parts_with.ensures.same kept.files at.image.file kept.keeps_files (kept_file g.S.Shelf.keeps c.args.shelf.now n images at.image e kept at.is at.shows) at.shows.index)

pub returns-in-Some-clause-keeps : goal.returns-in-Some-clause-keeps
returns-in-Some-clause-keeps g c = λ images. keeps_on g.S.Shelf.keeps c.args.shelf.now c.window_by_parts_with.new.shelf images c.window_by_parts_with.ensures.kept

pub returns-in-None-clause-gives : goal.returns-in-None-clause-gives
returns-in-None-clause-gives g c = λ images shows. absent_image c.args.name.now (map arc_value c.args.entries.now) images shows (sym c.in-None.ensures)

pub returns-in-Some-clause-made : goal.returns-in-Some-clause-made
returns-in-Some-clause-made g c =
    let e = c.deref.result.now in
    let is : entry_of (map arc_value c.args.entries.now) c.args.name.now ≡ Some e = sym c.in-Some.ensures ∙ ap Some (sym c.deref.ensures) in
    if_ok c.window_by_parts_with.result
    (λ w given. (e, given.0, is, parts_of g.S.Shelf.gave_at e given.0 c.args.shelf.now c.window_by_parts_with.new.shelf given.1, given.2))
    c.window_by_parts_with.ensures.given
