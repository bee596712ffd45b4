use Rattle.std.specs.String.{string_bytes}
use Rattle.jk_port.proofs.RecordLaws.{spells_on}
use Rattle.jk_port.proofs.record.put_readable.Goals as goal

pub loop-byte-preserved : goal.loop-byte-preserved
loop-byte-preserved c = spells_on (string_bytes c.args.text.now) (string_bytes c.loop-byte.text) (string_bytes c.put_byte.new.text) c.loop-byte.invariant c.in_ok-put_byte.ensures
