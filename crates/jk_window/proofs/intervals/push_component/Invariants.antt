use Rattle.jk_window.specs.Numbered.{Adds}
use Rattle.jk_window.proofs.Adding.{IsInResolutions}
use Rattle.jk_window.proofs.intervals.push_component.Given as goal

abbrev pub invariant-loop-resolution : goal.invariant-loop-resolution
invariant-loop-resolution l =
    Adds l.tile.shape.now l.initial.intervals.items l.intervals.items (IsInResolutions l.tile l.fn.layers l.fn.component l.resolution)
