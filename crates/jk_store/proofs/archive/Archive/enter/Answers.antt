use Rattle.std.proofs.Common.{◌≡◌, ◌⊎◌, map, Ok, refl, arith}
use Rattle.std.specs.Arc.{arc_value}
use Rattle.jk_math.specs.Memory.{IsMemory}
use Rattle.jk_math.specs.declared.fault.Fault.TheVariants.{Shelf}
use Rattle.jk_store.specs.Files.{Files}
use Rattle.jk_store.specs.Names.{temporary_name, file_name}
use Rattle.jk_store.specs.Adding.{IsLeftByAdd, WhyUnstored}
use Rattle.jk_store.proofs.OpenLaws.{fault_is}
use Rattle.jk_store.proofs.AddedLaws.{archive_shows, archive_keeps, added}
use Rattle.jk_store.proofs.AddLaws.{archive_named, archive_few}
use Rattle.jk_store.proofs.MadeLaws.{same_made, archive_made}
use Rattle.jk_store.proofs.StoringLaws.{entry_stands}
use Rattle.jk_store.proofs.archive.Archive.enter.Goals as goal

pub invariant_of-self-2 : goal.invariant_of-self-2
invariant_of-self-2 g c =
    record {
      named = archive_named arc_value c.args.self.now.entries.items c.reserve.new.self.items c.push_reserved.new.self.items c.in_ok-listed.listed (arc_value c.args.entry) c.args.name.now
          c.push_reserved.ensures.items c.reserve.ensures.items c.in_ok-listed.ensures c.requires.made.0 c.args.self.now.named c.requires.named c.requires.fresh;
      few = archive_few c.args.self.now.entries.items c.reserve.new.self.items c.push_reserved.new.self.items c.in_ok-listed.listed c.push_reserved.ensures.items c.reserve.ensures.items c.requires.room;
    }

pub returns-in_err-store_named-clause-left : goal.returns-in_err-store_named-clause-left
returns-in_err-store_named-clause-left g c = λ files kept.
    let name = c.args.name.now in
    fault_is c.from_residual-in_err-store_named.result c.in_err-store_named.field-0.0 c.from_residual-in_err-store_named.ensures.1
    (λ e. (left : Files) × g.S.Shelf.keeps c.store_named.new.shelf left × IsLeftByAdd (temporary_name name) (file_name name) (Ok c.args.bytes.now) e files left)
    (c.in_err-store_named.ensures.left files kept)

pub returns-in_err-store_named-clause-cause : goal.returns-in_err-store_named-clause-cause
returns-in_err-store_named-clause-cause g c =
    let name = c.args.name.now in
    fault_is c.from_residual-in_err-store_named.result c.in_err-store_named.field-0.0 c.from_residual-in_err-store_named.ensures.1
    (WhyUnstored c.args.naming g.S.Shelf.unwritten g.S.Shelf.unrenamed g.S.Shelf.unplaced g.S.Shelf.taken (temporary_name name) (file_name name) c.args.self.now.shelf c.store_named.new.shelf)
    c.in_err-store_named.ensures.cause

pub returns-clause-shows : goal.returns-clause-shows
returns-clause-shows g c = λ images shows.
    let stands = entry_stands (arc_value c.args.entry) c.args.name.now c.args.bytes.now (λ k. omega (arith, c.type_inv.bytes k)) c.requires.made in
    let bytes = c.args.bytes.now in
    let e = arc_value c.args.entry in (
      added e c.args.name.now bytes stands,
      archive_shows arc_value c.args.self.now.entries.items c.reserve.new.self.items c.push_reserved.new.self.items c.in_ok-listed.listed e c.args.name.now bytes images
          c.push_reserved.ensures.items c.reserve.ensures.items c.in_ok-listed.ensures stands shows,
      stands.name,
      refl,
    )

pub returns-clause-keeps : goal.returns-clause-keeps
returns-clause-keeps g c = λ images shown.
    let name = c.args.name.now in
    let bytes = c.args.bytes.now in
    let e = arc_value c.args.entry in
    let stands = entry_stands e name bytes (λ k. omega (arith, c.type_inv.bytes k)) c.requires.made in (
      added e name bytes stands,
      record {
        shows = archive_shows arc_value c.args.self.now.entries.items c.reserve.new.self.items c.push_reserved.new.self.items c.in_ok-listed.listed e name bytes images
            c.push_reserved.ensures.items c.reserve.ensures.items c.in_ok-listed.ensures stands shown.shows;
        kept = archive_keeps g.S.Shelf.keeps c.args.self.now.shelf c.store_named.new.shelf (map arc_value c.args.self.now.entries.items) images name bytes shown.shows c.requires.fresh shown.kept
            (c.in_ok-store_named.ensures.holds shown.kept.files shown.kept.keeps_files) (added e name bytes stands) stands.name refl;
      },
      stands.name,
      refl,
    )

pub returns-clause-made : goal.returns-clause-made
returns-clause-made g c =
    archive_made arc_value c.args.self.now.entries.items c.reserve.new.self.items c.push_reserved.new.self.items c.in_ok-listed.listed
    c.push_reserved.ensures.items c.reserve.ensures.items

pub returns-in_err-reserve-clause-made : goal.returns-in_err-reserve-clause-made
returns-in_err-reserve-clause-made g c = same_made arc_value c.args.self.now.entries.items c.reserve.new.self.items c.reserve.ensures.items

pub returns-in_err-store_named-clause-made : goal.returns-in_err-store_named-clause-made
returns-in_err-store_named-clause-made g c = same_made arc_value c.args.self.now.entries.items c.reserve.new.self.items c.reserve.ensures.items

pub returns-clause-stands : goal.returns-clause-stands
returns-clause-stands g c = entry_stands (arc_value c.args.entry) c.args.name.now c.args.bytes.now (λ k. omega (arith, c.type_inv.bytes k)) c.requires.made
