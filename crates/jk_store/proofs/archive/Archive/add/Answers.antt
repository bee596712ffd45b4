use Rattle.std.proofs.Common.{◌≡◌, ◌⊎◌, ◌++◌, ◌∷◌, [], map, Err}
use Rattle.std.specs.Arc.{arc_value}
use Rattle.jk_code.specs.Written.{written}
use Rattle.jk_store.specs.Names.{temporary_name, file_name}
use Rattle.jk_store.specs.Adding.{judged, IsUnstored}
use Rattle.jk_store.specs.Showing.{ShowImages, StandForImages}
use Rattle.jk_store.proofs.DueLaws.{stands_due, holds_due, image_due, left_due, cause_due, passes_too}
use Rattle.jk_store.proofs.archive.Archive.add.Goals as goal

pub put-requires : goal.put-requires
put-requires g c =
    record {
      image = c.in_ok-file.ensures.image;
      named = c.in_ok-judge.ensures.named;
      fresh = rw c.deref.ensures.value at c.in_ok-judge.ensures.fresh;
      room = rw c.deref.ensures.value at c.in_ok-judge.ensures.room;
    }

pub returns-clause-stands : goal.returns-clause-stands
returns-clause-stands g c = stands_due _ _ c.in_ok-file.ensures.exact arc_value c.args.name.now c.put.result c.put.ensures.stands

pub returns-clause-holds : goal.returns-clause-holds
returns-clause-holds g c = λ files f kept is.
    let name = c.args.name.now in
    holds_due _ _ c.in_ok-file.ensures.exact g.S.Shelf.keeps c.put.new.self.shelf (file_name name) (temporary_name name) files c.put.result (c.put.ensures.holds files kept) f is

pub returns-clause-shows : goal.returns-clause-shows
returns-clause-shows g c = λ images shows.
    image_due _ _ c.in_ok-file.ensures.exact c.args.name.now (λ i. ShowImages (map arc_value c.put.new.self.entries.items) (images ++ i ∷ [])) c.put.result (c.put.ensures.shows images shows)

pub returns-clause-keeps : goal.returns-clause-keeps
returns-clause-keeps g c = λ images stands.
    image_due _ _ c.in_ok-file.ensures.exact c.args.name.now (λ i. StandForImages g.S.Shelf.keeps (map arc_value c.put.new.self.entries.items) c.put.new.self.shelf (images ++ i ∷ []))
    c.put.result (c.put.ensures.keeps images stands)

pub returns-clause-left : goal.returns-clause-left
returns-clause-left g c = λ files kept.
    let name = c.args.name.now in
    left_due _ _ c.in_ok-file.ensures.exact g.S.Shelf.keeps c.put.new.self.shelf (file_name name) (temporary_name name) files c.put.result (c.put.ensures.left files kept)

pub returns-clause-cause : goal.returns-clause-cause
returns-clause-cause g c =
    let name = c.args.name.now in
    cause_due _ _ c.in_ok-file.ensures.exact (λ e. judged (map arc_value c.args.self.now.entries.items) c.args.name.now c.args.image.now c.args.parameters.now ≡ Err e)
    (IsUnstored g.S.Shelf.unwritten g.S.Shelf.unrenamed (temporary_name name) (file_name name) c.args.self.now.shelf c.put.new.self.shelf) c.put.result c.put.ensures.cause

pub returns-clause-counts : goal.returns-clause-counts
returns-clause-counts g c =
    passes_too _ (λ e. (judged (map arc_value c.args.self.now.entries.items) c.args.name.now c.args.image.now c.args.parameters.now ≡ Err e) ⊎ (written c.args.image.now c.args.parameters.now ≡ Err e)) c.put.result _ _ c.put.ensures.counts
