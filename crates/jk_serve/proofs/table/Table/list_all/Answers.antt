use Rattle.std.proofs.Common.{map}
use Rattle.std.specs.Arc.{arc_value}
use Rattle.jk_hall.specs.Writing.{list, waits}
use Rattle.jk_serve.specs.Operating.{entries_of}
use Rattle.jk_serve.proofs.TableLaws.{within_all, new_within, memory_alone}
use Rattle.jk_serve.proofs.table.Table.list_all.Goals as goal

pub invariant_of-self-2 : goal.invariant_of-self-2
invariant_of-self-2 g c =
    let w = c.args.self.now.writer in
    record {
      within = within_all c.publish_all.result (list w) (waits w) (map arc_value c.in_ok-judged.judged.entries.items) (entries_of c.args.self.now.archive) (list c.publish_all.new.self) (waits c.publish_all.new.self)
          (entries_of c.list_each.new.archive) c.args.self.now.within c.in_ok-judged.ensures.added c.publish_all.ensures.ok c.publish_all.ensures.none_waits c.publish_all.ensures.err c.publish_all.ensures.still_wait;
    }

pub returns-in_err-publish_all-clause-err : goal.returns-in_err-publish_all-clause-err
returns-in_err-publish_all-clause-err g c =
    let w = c.args.self.now.writer in
    memory_alone c.from_residual-in_err-publish_all.result c.in_err-publish_all.field-0.0 c.publish_all.result _ c.from_residual-in_err-publish_all.ensures.1 c.in_err-publish_all.was c.in_err-publish_all.ensures.cause
    c.publish_all.ensures.taken (new_within c.args.images.items (entries_of c.args.self.now.archive) _ (map arc_value c.in_ok-judged.judged.entries.items) c.in_ok-judged.judged.passed.items c.args.self.now.within c.in_ok-judged.ensures.each)
