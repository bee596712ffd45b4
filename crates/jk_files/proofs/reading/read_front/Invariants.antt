use Rattle.std.proofs.Common.{◌≡◌, ◌≤◌, length}
use Rattle.std.specs.Io.KnownBytes.{Consumes}
use Rattle.jk_files.proofs.reading.read_front.Given as goal

-- the bytes so far are those that were taken from the source, and no more than are wanted
abbrev pub invariant-loop-read : goal.invariant-loop-read
invariant-loop-read g l = record {
  taken : Consumes (g.S.Read.remaining l.initial.source) (g.S.Read.remaining l.source) l.bytes.items;
  room : length l.piece.items ≡ length l.initial.piece.items;
  below : length l.bytes.items ≤ l.most;
}
