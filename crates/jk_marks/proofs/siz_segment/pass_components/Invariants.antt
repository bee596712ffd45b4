use Rattle.std.proofs.Common.{◌≡◌, ◌-◌}
use Rattle.jk_marks.specs.HeaderReading.{components_at}
use Rattle.jk_marks.proofs.siz_segment.pass_components.Given as goal

abbrev pub invariant-loop : goal.invariant-loop
invariant-loop l = components_at (l.fn.count - l.counter) l.common l.cursor ≡ components_at l.fn.count l.common l.fn.cursor
