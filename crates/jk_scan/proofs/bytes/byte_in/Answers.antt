use Rattle.std.proofs.Common.{◌-◌, ◌*◌, ◌/◌, ◌%◌, ◌^◌, get_or}
use Rattle.std.proofs.lemmas.Nat.{and_mask}
use Rattle.jk_scan.proofs.bytes.byte_in.Goals as goal

pub returns : goal.returns
returns c = and_mask (get_or c.args.rows.now (c.args.k % 8 - 1) 0 / 2 ^ (8 * (c.args.k / 8))) 8
