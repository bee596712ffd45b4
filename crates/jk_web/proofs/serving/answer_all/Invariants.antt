use Rattle.std.proofs.Common.{◌≡◌, ℕ, List, length, None}
use Rattle.std.specs.Io.KnownBytes.{Appends}
use Rattle.jk_web.specs.Serving.{Answered}
use Rattle.jk_web.proofs.serving.answer_all.Given as goal

abbrev pub invariant-requests : goal.invariant-requests
invariant-requests g l =
    (l.session.stuck ≡ None)
    × ((text : List ℕ) × Appends (g.O.Write.contents l.initial.writer) (g.O.Write.contents l.writer) text
    × Answered g.S.Service.gives l.initial.service l.initial.session.rest text l.session.rest l.service)

abbrev pub decreases-requests : goal.decreases-requests
decreases-requests g l = length l.session.rest
