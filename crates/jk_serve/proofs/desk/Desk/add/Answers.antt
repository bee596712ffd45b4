use Rattle.std.proofs.Common.{◌∙◌}
use Rattle.std.specs.Arc.{arc_value}
use Rattle.jk_serve.proofs.OperatingLaws.{added, refused, grown, behind, grows_still}
use Rattle.jk_serve.proofs.desk.Desk.add.Goals as goal

pub returns-in_err-look-clause-grows : goal.returns-in_err-look-clause-grows
returns-in_err-look-clause-grows g c = grows_still c.args.self.now.archive c.look.new.self.archive c.args.writer.now c.look.ensures

pub returns-in_err-prepared-clause-grows : goal.returns-in_err-prepared-clause-grows
returns-in_err-prepared-clause-grows g c = grows_still c.args.self.now.archive c.look.new.self.archive c.args.writer.now c.look.ensures

pub returns-in_err-lock-clause-grows : goal.returns-in_err-lock-clause-grows
returns-in_err-lock-clause-grows g c = grows_still c.args.self.now.archive c.look.new.self.archive c.args.writer.now c.look.ensures

pub returns-in_err-entered-clause-grows : goal.returns-in_err-entered-clause-grows
returns-in_err-entered-clause-grows g c =
    grows_still c.args.self.now.archive c.enter-entered.new.self.archive c.args.writer.now (c.in_err-entered.ensures.err ∙ c.look.ensures)

pub returns-clause-ok : goal.returns-clause-ok
returns-clause-ok g c =
    let e = c.in_ok-entered.ensures in
    let entry = arc_value c.in_ok-entered.field-0 in
    let after = c.enter-entered.new.self.archive in
    added c.args.self.now.archive after c.args.writer.now c.publish.new.self entry c.args.name.now c.publish.result (e.named ∙ c.in_ok-prepared.ensures.named)
    (behind c.args.self.now.archive c.look.new.self.archive after entry c.look.ensures e.ok) c.publish.ensures.ok c.publish.ensures.none_waits

pub returns-clause-err : goal.returns-clause-err
returns-clause-err g c =
    let entry = arc_value c.in_ok-entered.field-0 in
    let after = c.enter-entered.new.self.archive in
    refused c.args.self.now.archive after c.args.writer.now c.publish.new.self entry
    c.publish.result (behind c.args.self.now.archive c.look.new.self.archive after entry c.look.ensures c.in_ok-entered.ensures.ok) c.publish.ensures.err c.publish.ensures.still_wait

pub returns-clause-grows : goal.returns-clause-grows
returns-clause-grows g c =
    let entry = arc_value c.in_ok-entered.field-0 in
    let after = c.enter-entered.new.self.archive in
    grown c.args.self.now.archive after c.args.writer.now c.publish.new.self entry
    c.publish.result (behind c.args.self.now.archive c.look.new.self.archive after entry c.look.ensures c.in_ok-entered.ensures.ok) c.publish.ensures.ok c.publish.ensures.err c.publish.ensures.hall
