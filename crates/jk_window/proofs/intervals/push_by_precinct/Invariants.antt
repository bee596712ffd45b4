use Rattle.jk_window.specs.Numbered.{Adds, IsOf}
use Rattle.jk_window.proofs.Adding.{precincts_with}
use Rattle.jk_window.proofs.intervals.push_by_precinct.Given as goal

abbrev pub invariant-loop-precinct : goal.invariant-loop-precinct
invariant-loop-precinct l =
    Adds l.numbers l.initial.intervals.items l.intervals.items (IsOf (precincts_with l.precincts (l.first, l.precinct) l.precincts.layers))
