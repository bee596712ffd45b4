use Rattle.std.proofs.Common.{length, ap, sym, ◌∙◌}
use Rattle.jk_window.proofs.PackedLaws.{spelled_long}
use Rattle.jk_window.proofs.packed.PackedEntries.len.Goals as goal

pub returns : goal.returns
returns c = sym (ap length (sym c.self.view_is) ∙ spelled_long c.self.inside.lists c.self.inside.count c.self.invariant)
