-- What the frame of an image says of the picture that its file means, and of its file.
use Rattle.std.proofs.Common.{◌≡◌, ℕ, eqb, List, length, Ok, sym, ap, subst, ◌∙◌}
use Rattle.jk_math.specs.Steps.{ok_is}
use Rattle.jk_math.specs.Picture.{Picture, is_grey_or_rgb}
use Rattle.jk_pnm.specs.declared.rasters.RasterFrame.{RasterFrame}
use Rattle.jk_pnm.specs.Written.{is_written, maxval_of, header_text}
use Rattle.jk_code.specs.declared.frames.ImageFrame.{ImageFrame}
use Rattle.jk_code.specs.Frames.{frame_at, IsFrameOfPicture}
use Rattle.jk_code.specs.MeaningReading.{meaning_at}
use Rattle.jk_code.proofs.Laws.{framed}
use Rattle.jk_commands.specs.Rasters.{IsRasterFrameOf}

-- A frame is that of the picture that the file means.
pub frame_is : (bytes : List ℕ) (d : ℕ) (f : ImageFrame) (p : Picture) → frame_at bytes d ≡ Ok f → meaning_at bytes d ≡ Ok p
    → IsRasterFrameOf (record { components = f.components; signed = f.signed; width = f.width; height = f.height; depth = f.depth }) p
frame_is bytes d f p told means =
    let due = framed bytes d p means in
    let is = subst (λ (x : ImageFrame). IsFrameOfPicture x p) (ok_is due.frame f (sym due.told ∙ told)) due.same in
    record { components = is.components; signed = is.signed; width = is.width; height = is.height; depth = is.depth }

-- It says whether the picture has a file,
pub has_written : (f : RasterFrame) (p : Picture) → IsRasterFrameOf f p → is_grey_or_rgb f.components f.signed ≡ is_written p
has_written f p is = ap (λ n. is_grey_or_rgb n f.signed) is.components ∙ ap (is_grey_or_rgb (length p.planes)) is.signed

-- and what the head of the file is.
pub head_is : (f : RasterFrame) (p : Picture) → IsRasterFrameOf f p → header_text (eqb f.components 3) f.width f.height (maxval_of f.depth) ≡ header_text (eqb (length p.planes) 3) p.width p.height (maxval_of p.depth)
head_is f p is =
    ap (λ n. header_text (eqb n 3) f.width f.height (maxval_of f.depth)) is.components
    ∙ ap (λ n. header_text (eqb (length p.planes) 3) n f.height (maxval_of f.depth)) is.width
    ∙ ap (λ n. header_text (eqb (length p.planes) 3) p.width n (maxval_of f.depth)) is.height
    ∙ ap (λ n. header_text (eqb (length p.planes) 3) p.width p.height (maxval_of n)) is.depth
