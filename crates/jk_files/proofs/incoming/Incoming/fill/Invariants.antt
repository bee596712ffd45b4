use Rattle.std.proofs.Common.{◌≡◌, []}
use Rattle.jk_files.specs.Incoming.{Took}
use Rattle.jk_files.proofs.incoming.Incoming.fill.Given as goal

abbrev pub invariant-loop-read : goal.invariant-loop-read
invariant-loop-read g l = record {
  took : Took g.S.Read.remaining l.fn.self l.self [];
  none : l.self.taken ≡ 0;
}
