use Rattle.jk_window.specs.Numbered.{Adds}
use Rattle.jk_window.proofs.Adding.{IsInComponents}
use Rattle.jk_window.proofs.intervals.push_components.Given as goal

abbrev pub invariant-loop-component : goal.invariant-loop-component
invariant-loop-component l =
    Adds l.tile.shape.now l.initial.intervals.items l.intervals.items (IsInComponents l.tile l.fn.layers l.component)
