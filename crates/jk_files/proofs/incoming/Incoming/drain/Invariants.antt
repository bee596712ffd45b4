use Rattle.std.proofs.Common.{◌≡◌, ℕ, List, []}
use Rattle.jk_files.specs.Incoming.{Took}
use Rattle.jk_files.proofs.incoming.Incoming.drain.Given as goal

-- nothing waits
abbrev pub invariant-loop-read : goal.invariant-loop-read
invariant-loop-read g l = record {
  bytes : List ℕ;
  took : Took g.S.Read.remaining l.fn.self l.self bytes;
  none : l.self.taken ≡ 0;
  empty : l.self.given.items ≡ [];
}
