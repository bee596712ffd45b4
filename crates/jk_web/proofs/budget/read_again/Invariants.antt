use Rattle.std.specs.Io.KnownBytes.{Keeps}
use Rattle.jk_web.proofs.budget.read_again.Given as goal

-- an interrupted read took nothing
abbrev pub invariant-loop-try : goal.invariant-loop-try
invariant-loop-try g l = Keeps (g.I.Read.remaining l.fn.reader) (g.I.Read.remaining l.reader)
