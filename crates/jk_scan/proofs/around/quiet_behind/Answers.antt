use Rattle.std.proofs.Common.{◌*◌, ◌^◌, ◌%◌}
use Rattle.std.specs.Int.{bit_not, w64}
use Rattle.std.specs.Int.RustNames.{bit_and}
use Rattle.jk_scan.proofs.Behind.{behind, behind_fewer}
use Rattle.jk_scan.proofs.around.quiet_behind.Goals as goal

pub returns-clause-behind : goal.returns-clause-behind
returns-clause-behind c limits f j s = behind limits f j s c.args.quiet c.args.k c.requires

pub returns-clause-fewer : goal.returns-clause-fewer
returns-clause-fewer c i = behind_fewer c.args.quiet (bit_not w64 (0x200 * 2 ^ bit_and c.args.k 0x38 % 2 ^ 64)) i
