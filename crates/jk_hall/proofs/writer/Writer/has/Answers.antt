use Rattle.std.proofs.Common.{map, rules}
use Rattle.std.specs.Arc.{arc_value}
use Rattle.jk_hall.specs.Sights.{listed}
use Rattle.jk_hall.proofs.Names.{listed-append}
use Rattle.jk_hall.proofs.writer.Writer.has.Goals as goal

pub returns-then-has_name : goal.returns-then-has_name
returns-then-has_name c =
    let w = c.args.self.now in
    let both = listed-append (listed w.inner.desk.shown.value) (map arc_value w.waiting.items) c.args.name.now in
    search (rules, both, w.whole)

pub returns-else-has_name : goal.returns-else-has_name
returns-else-has_name c =
    let w = c.args.self.now in
    let both = listed-append (listed w.inner.desk.shown.value) (map arc_value w.waiting.items) c.args.name.now in
    search (rules, both, w.whole)
