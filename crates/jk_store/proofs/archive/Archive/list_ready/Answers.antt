use Rattle.std.proofs.Common.{map, refl, sym, subst, arith}
use Rattle.std.specs.Arc.{arc_value}
use Rattle.jk_store.specs.Catalogue.{StandsFor, stored}
use Rattle.jk_store.proofs.AddedLaws.{archive_shows, added}
use Rattle.jk_store.proofs.AddLaws.{archive_named, archive_few}
use Rattle.jk_store.proofs.MadeLaws.{same_made, archive_made}
use Rattle.jk_store.proofs.StoringLaws.{entry_stands}
use Rattle.jk_store.proofs.ListingLaws.{kept_beside}
use Rattle.jk_store.proofs.archive.Archive.list_ready.Goals as goal

pub invariant_of-self-2 : goal.invariant_of-self-2
invariant_of-self-2 g c =
    record {
      named = archive_named arc_value c.args.self.now.entries.items c.reserve.new.self.items c.push_reserved.new.self.items c.in_ok-listed.listed (arc_value c.args.entry.now) c.args._name.now
          c.push_reserved.ensures.items c.reserve.ensures.items c.in_ok-listed.ensures c.requires.made.0 c.args.self.now.named c.requires.named c.requires.fresh;
      few = archive_few c.args.self.now.entries.items c.reserve.new.self.items c.push_reserved.new.self.items c.in_ok-listed.listed c.push_reserved.ensures.items c.reserve.ensures.items c.requires.room;
    }

pub returns-clause-shows : goal.returns-clause-shows
returns-clause-shows g c = λ images shows.
    let stands = entry_stands (arc_value c.args.entry.now) c.args._name.now c.args._bytes.now (λ k. omega (arith, c.type_inv._bytes k)) c.requires.made in
    let bytes = c.args._bytes.now in
    let e = arc_value c.args.entry.now in (
      added e c.args._name.now bytes stands,
      archive_shows arc_value c.args.self.now.entries.items c.reserve.new.self.items c.push_reserved.new.self.items c.in_ok-listed.listed e c.args._name.now bytes images
          c.push_reserved.ensures.items c.reserve.ensures.items c.in_ok-listed.ensures stands shows,
      stands.name,
      refl,
    )

pub returns-clause-keeps : goal.returns-clause-keeps
returns-clause-keeps g c = λ images shown here.
    let name = c.args._name.now in
    let bytes = c.args._bytes.now in
    let e = arc_value c.args.entry.now in
    let stands = entry_stands e name bytes (λ k. omega (arith, c.type_inv._bytes k)) c.requires.made in (
      added e name bytes stands,
      record {
        shows = archive_shows arc_value c.args.self.now.entries.items c.reserve.new.self.items c.push_reserved.new.self.items c.in_ok-listed.listed e name bytes images
            c.push_reserved.ensures.items c.reserve.ensures.items c.in_ok-listed.ensures stands shown.shows;
        kept = kept_beside g.S.Shelf.keeps c.args.self.now.shelf c.args.self.now.shelf images name bytes refl shown.kept here (added e name bytes stands) stands.name refl;
      },
      stands.name,
      refl,
    )

pub returns-clause-made : goal.returns-clause-made
returns-clause-made g c =
    archive_made arc_value c.args.self.now.entries.items c.reserve.new.self.items c.push_reserved.new.self.items c.in_ok-listed.listed
    c.push_reserved.ensures.items c.reserve.ensures.items

pub returns-in_err-reserve-clause-made : goal.returns-in_err-reserve-clause-made
returns-in_err-reserve-clause-made g c = same_made arc_value c.args.self.now.entries.items c.reserve.new.self.items c.reserve.ensures.items

pub returns-clause-stands : goal.returns-clause-stands
returns-clause-stands g c =
    subst (λ e. StandsFor e (stored c.args._name.now c.args._bytes.now)) (sym c.in_ok-given.ensures)
    (entry_stands (arc_value c.args.entry.now) c.args._name.now c.args._bytes.now (λ k. omega (arith, c.type_inv._bytes k)) c.requires.made)
