use Rattle.std.proofs.Common.{◌+◌, arith}
use Rattle.jk_block.proofs.encoding.Sheeted.{sheet_wider}
use Rattle.jk_block.proofs.encoding.decisions.make_room.Goals as goal

pub returns-in_ok-widen-clause-room : goal.returns-in_ok-widen-clause-room
returns-in_ok-widen-clause-room c = sheet_wider c.args.bytes.now.items c.widen.new.bytes.items c.args.count (c.args.count + 136) c.requires c.in_ok-widen.ensures.wider (omega arith)

pub returns-in_ok-widen-clause-sheet : goal.returns-in_ok-widen-clause-sheet
returns-in_ok-widen-clause-sheet c = sheet_wider c.args.bytes.now.items c.widen.new.bytes.items c.args.count c.args.count c.requires c.in_ok-widen.ensures.wider (omega arith)
