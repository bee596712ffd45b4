use Rattle.jk_window.specs.Numbered.{Adds}
use Rattle.jk_window.proofs.Adding.{IsInRows}
use Rattle.jk_window.proofs.intervals.push_resolution.Given as goal

abbrev pub invariant-loop-row : goal.invariant-loop-row
invariant-loop-row l =
    Adds l.tile.shape.now l.initial.intervals.items l.intervals.items (IsInRows l.tile l.fn.layers l.fn.component l.fn.resolution l.across l.row)
