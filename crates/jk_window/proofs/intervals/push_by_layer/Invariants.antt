use Rattle.jk_window.specs.Numbered.{Adds, IsOf}
use Rattle.jk_window.proofs.Adding.{precincts_with}
use Rattle.jk_window.proofs.intervals.push_by_layer.Given as goal

abbrev pub invariant-loop-layer : goal.invariant-loop-layer
invariant-loop-layer l =
    Adds l.numbers l.initial.intervals.items l.intervals.items (IsOf (precincts_with l.precincts l.precincts.numbers l.layer))
