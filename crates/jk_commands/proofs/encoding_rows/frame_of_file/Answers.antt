use Rattle.std.proofs.Common.{sym, ap, ◌∙◌}
use Rattle.jk_params.specs.declared.picture_frame.PictureFrame.{PictureFrame}
use Rattle.jk_pnm.specs.declared.rasters.RasterFrame.{RasterFrame}
use Rattle.jk_commands.proofs.FileRowLaws.{drawn_frame}
use Rattle.jk_commands.proofs.encoding_rows.frame_of_file.Goals as goal

-- the frame of an image whose raster has this one
abbrev as_picture : RasterFrame → PictureFrame
as_picture f = record { x0 = 0; y0 = 0; width = f.width; height = f.height; components = f.components; depth = f.depth; signed = f.signed }

pub returns-clause-value : goal.returns-clause-value
returns-clause-value c = ap as_picture c.frame-frame.ensures.value ∙ sym (drawn_frame c.args.raster.now)
