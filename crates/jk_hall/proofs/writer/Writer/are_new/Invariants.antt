use Rattle.std.proofs.Common.{◌≡◌, ◌++◌, map, take, drop}
use Rattle.std.specs.Arc.{arc_value}
use Rattle.jk_hall.specs.Writing.{are_new}
use Rattle.jk_hall.proofs.writer.Writer.are_new.Given as goal

-- those that are left are judged beside those before
abbrev pub invariant-loop-number : goal.invariant-loop-number
invariant-loop-number l =
    are_new l.self.history.front.seen.log (map arc_value l.entries) ≡ are_new (l.self.history.front.seen.log ++ map arc_value (take l.number l.entries)) (map arc_value (drop l.number l.entries))
