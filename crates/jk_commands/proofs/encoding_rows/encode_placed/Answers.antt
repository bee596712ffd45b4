use Rattle.std.proofs.Common.{refl}
use Rattle.jk_commands.specs.declared.encoding_rows.FileRows.{FileRows}
use Rattle.jk_commands.proofs.RowLeftLaws.{rows_whole, rows_left, placed_frame, at_corner}
use Rattle.jk_commands.proofs.encoding_rows.encode_placed.Goals as goal

pub returns-clause-ok : goal.returns-clause-ok
returns-clause-ok g c =
    let d = c.args.raster in
    let f = c.args.placed.now.frame in
    let s : FileRows = record { raster = d; x0 = f.x0; y0 = f.y0; given = 0 } in
    let frame = placed_frame d f c.requires.place c.requires.frame in
    rows_whole (g.W.Write.contents c.args.writer.now) (g.W.Write.contents c.encode_rows.new.writer) s c.encode_rows.new.supply f c.args.placed.now.parameters c.encode_rows.result c.requires.place refl
    (at_corner f.x0 f.y0 d.header.width d.header.height frame) c.encode_rows.ensures.ok

pub returns-clause-part : goal.returns-clause-part
returns-clause-part g c =
    let d = c.args.raster in
    let f = c.args.placed.now.frame in
    let s : FileRows = record { raster = d; x0 = f.x0; y0 = f.y0; given = 0 } in
    let frame = placed_frame d f c.requires.place c.requires.frame in
    rows_left (g.W.Write.contents c.args.writer.now) (g.W.Write.contents c.encode_rows.new.writer) s c.encode_rows.new.supply f c.args.placed.now.parameters c.encode_rows.result c.requires.place refl
    (at_corner f.x0 f.y0 d.header.width d.header.height frame) frame c.encode_rows.ensures.part
