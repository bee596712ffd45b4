use Rattle.jk_wave.proofs.ColumnRows.{on_done}
use Rattle.jk_walk.specs.TilePackets.{planes_of}
use Rattle.jk_tile.proofs.encoding.ComponentDone.{hold_blocks, have_blocks}
use Rattle.jk_tile.proofs.encoding.fallen.FallenComponent.add_tables.Goals as goal

pub add_late-requires-clause-blocks : goal.add_late-requires-clause-blocks
add_late-requires-clause-blocks c = hold_blocks c.args.source.now (planes_of c.args.coding.now) c.args.self c.requires.fallen c.requires.room

pub returns-clause-tables : goal.returns-clause-tables
returns-clause-tables c = on_done c.add_late.result (λ given f has. given f (have_blocks c.args.source.now f c.args.self has)) c.add_late.ensures.tables
