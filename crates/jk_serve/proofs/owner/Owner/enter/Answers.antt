use Rattle.std.specs.String.{string_bytes}
use Rattle.jk_serve.proofs.OperatingLaws.{added_behind, refused_behind, grows_there}
use Rattle.jk_serve.proofs.owner.Owner.enter.Goals as goal

pub returns-in_err-look-clause-grows : goal.returns-in_err-look-clause-grows
returns-in_err-look-clause-grows g c =
    grows_there c.args.self.now.table.archive c.look.new.self.archive c.args.self.now.table.writer c.look.new.self.writer c.look.ensures.same c.look.ensures.writer

pub returns-clause-ok : goal.returns-clause-ok
returns-clause-ok g c =
    added_behind c.args.self.now.table.archive c.look.new.self.archive c.add.new.self.archive c.args.self.now.table.writer c.look.new.self.writer c.add.new.self.writer c.look.ensures.same c.look.ensures.writer
    (string_bytes c.args.prepared.name) c.add.result c.add.ensures.ok

pub returns-clause-err : goal.returns-clause-err
returns-clause-err g c =
    refused_behind c.args.self.now.table.archive c.look.new.self.archive c.add.new.self.archive c.args.self.now.table.writer c.look.new.self.writer c.add.new.self.writer c.look.ensures.same c.look.ensures.writer
    c.add.result c.add.ensures.err
