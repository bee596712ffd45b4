use Rattle.std.proofs.Common.{◌*◌, ◌/◌, ◌%◌, ◌^◌, arith}
use Rattle.std.specs.Int.RustNames.{bit_or}
use Rattle.jk_scan.proofs.Stillness.{narrowed, still_in_turn}
use Rattle.jk_scan.proofs.words.quiet_in_turn.Goals as goal

pub quiet-requires : goal.quiet-requires
quiet-requires c =
    let a = c.args.seen in
    narrowed (bit_or (bit_or (bit_or (a.centre * 2 ^ 8 % 2 ^ 64) (a.west / 2 ^ 56)) c.args.old) (bit_or (c.args.old / 2 ^ 8) (a.east * 2 ^ 56 % 2 ^ 64)))

pub returns : goal.returns
returns c f m j s centre n i p q fits turns around inside =
    let a = c.args.seen in
    still_in_turn f m j s centre a.centre c.args.old a.west a.east c.quiet.result c.args.inside n i (omega arith) (omega arith) (omega arith) c.quiet.ensures p q fits turns around inside
