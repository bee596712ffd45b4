use Rattle.std.proofs.Common.{◌≡◌}
use Rattle.vectors_packet.proofs.writing.writes.Given as goal

abbrev pub invariant-loop-packet : goal.invariant-loop-packet
invariant-loop-packet g l = record { next : l.writer.written ≡ l.layer; all : l.writer.layers ≡ l.layers }
