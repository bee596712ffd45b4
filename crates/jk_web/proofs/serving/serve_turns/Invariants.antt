use Rattle.std.proofs.Common.{◌≡◌, ◌≤◌, ◌+◌, ◌*◌, ℕ, List, None, length}
use Rattle.std.specs.Io.KnownBytes.{Appends, Consumes}
use Rattle.jk_web.specs.Heads.{IsQuiet}
use Rattle.jk_web.specs.Serving.{Answered}
use Rattle.jk_web.specs.Turns.{most_read}
use Rattle.jk_web.proofs.serving.serve_turns.Given as goal

abbrev pub invariant-turns : goal.invariant-turns
invariant-turns g l =
    (l.budget.reader.ghost_name ≡ l.initial.budget.reader.ghost_name)
    × (l.budget.left + l.counter ≡ l.turns)
    × (l.session.stuck ≡ None)
    × IsQuiet l.session.rest
    × ((stream : List ℕ) × (text : List ℕ) × (l.counter ≤ length stream)
    × Consumes (g.I.Read.remaining l.initial.budget.reader.now) (g.I.Read.remaining l.budget.reader.now) stream
    × Appends (g.O.Write.contents l.initial.writer) (g.O.Write.contents l.writer) text
    × Answered g.S.Service.gives l.initial.service stream text l.session.rest l.service
    × (length stream ≤ most_read * l.counter))
