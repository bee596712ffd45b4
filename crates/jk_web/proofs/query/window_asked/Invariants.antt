use Rattle.std.proofs.Common.{◌≡◌, map}
use Rattle.form_urlencoded.specs.Parse.{pairs_left}
use Rattle.jk_web.specs.Queries.{decoded, pairs_of, asked_by}
use Rattle.jk_web.specs.Readings.{asked_with}
use Rattle.jk_web.proofs.query.window_asked.Given as goal

abbrev pub invariant-loop-pair : goal.invariant-loop-pair
invariant-loop-pair l =
    (goal.iterator-loop-pair).can_next l.pair-iterator
    × (goal.iterator-loop-pair).is_finite l.pair-iterator
    × (asked_with l.readings (map decoded (pairs_left l.pair-iterator)) ≡ asked_by (pairs_of l.query))
