use Rattle.std.specs.String.{string_bytes}
use Rattle.jk_port.specs.Records.{Spells}
use Rattle.jk_port.proofs.record.put_readable.Given as goal

abbrev pub invariant-loop-byte : goal.invariant-loop-byte
invariant-loop-byte l = Spells (string_bytes l.initial.text) (string_bytes l.text)
