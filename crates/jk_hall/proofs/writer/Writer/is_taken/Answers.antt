use Rattle.std.proofs.Common.{map, rules}
use Rattle.std.specs.Arc.{arc_value}
use Rattle.jk_hall.proofs.Names.{listed-append}
use Rattle.jk_hall.proofs.writer.Writer.is_taken.Goals as goal

pub returns-then-has : goal.returns-then-has
returns-then-has c =
    let both = listed-append c.args.self.now.history.front.seen.log (map arc_value c.args.before.now) c.args.name.now in
    search (rules, both)

pub returns-else-has : goal.returns-else-has
returns-else-has c =
    let both = listed-append c.args.self.now.history.front.seen.log (map arc_value c.args.before.now) c.args.name.now in
    search (rules, both)
