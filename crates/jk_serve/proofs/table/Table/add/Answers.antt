use Rattle.std.proofs.Common.{ap, map}
use Rattle.std.specs.Arc.{arc_value}
use Rattle.std.specs.String.{string_bytes}
use Rattle.jk_hall.specs.Writing.{list, waits}
use Rattle.jk_serve.specs.Operating.{entries_of}
use Rattle.jk_serve.proofs.TableLaws.{within_one}
use Rattle.jk_serve.proofs.OperatingLaws.{added, refused, grown, grows_still}
use Rattle.jk_serve.proofs.table.Table.add.Goals as goal

pub returns-clause-ok : goal.returns-clause-ok
returns-clause-ok g c =
    let e = c.in_ok-entry.ensures in
    added c.args.self.now.archive c.add_prepared.new.self c.args.self.now.writer c.publish.new.self (arc_value c.in_ok-entry.entry) (string_bytes c.args.prepared.name) c.publish.result e.stands.2.name
    e.listed c.publish.ensures.ok c.publish.ensures.none_waits

pub returns-clause-err : goal.returns-clause-err
returns-clause-err g c =
    refused c.args.self.now.archive c.add_prepared.new.self c.args.self.now.writer c.publish.new.self (arc_value c.in_ok-entry.entry) c.publish.result c.in_ok-entry.ensures.listed c.publish.ensures.err c.publish.ensures.still_wait

pub returns-clause-grows : goal.returns-clause-grows
returns-clause-grows g c =
    grown c.args.self.now.archive c.add_prepared.new.self c.args.self.now.writer c.publish.new.self (arc_value c.in_ok-entry.entry) c.publish.result c.in_ok-entry.ensures.listed c.publish.ensures.ok c.publish.ensures.err
    c.publish.ensures.hall

pub returns-in_err-entry-clause-grows : goal.returns-in_err-entry-clause-grows
returns-in_err-entry-clause-grows g c = grows_still c.args.self.now.archive c.add_prepared.new.self c.args.self.now.writer (ap (map arc_value) c.in_err-entry.ensures.err)

pub invariant_of-self-2 : goal.invariant_of-self-2
invariant_of-self-2 g c = record {
  within = within_one c.publish.result (list c.args.self.now.writer) (waits c.args.self.now.writer) (entries_of c.args.self.now.archive) (list c.publish.new.self) (waits c.publish.new.self)
      (entries_of c.add_prepared.new.self) (arc_value c.in_ok-entry.entry) c.args.self.now.within c.in_ok-entry.ensures.listed c.publish.ensures.ok c.publish.ensures.none_waits c.publish.ensures.err
      c.publish.ensures.still_wait;
}
