use Rattle.std.proofs.Common.{◌≡◌, List, ℤ, Ok, sym, ap, subst, ◌∙◌}
use Rattle.jk_math.specs.Picture.{IsPicture}
use Rattle.jk_pnm.specs.Reading.{picture_of}
use Rattle.jk_pnm.proofs.PictureLaws.{picture_is, picture_below, picture_ok, picture_bad, page_of}
use Rattle.jk_pnm.proofs.reading.page.Goals as goal

pub returns-in-Ok : goal.returns-in-Ok
returns-in-Ok c = λ raster planes-are.
    (let h = c.args.header.now in
    let image-is : c.in-Ok.image ≡ picture_of h raster = c.in-Ok.ensures.value ∙ ap (λ (ps : List (List ℤ)). page_of h ps) planes-are in
    let below = picture_below h raster c.requires.depth (subst IsPicture image-is c.in-Ok.ensures.profile) in
    picture_ok h raster below ∙ ap Ok (sym image-is))

pub returns-in-Err : goal.returns-in-Err
returns-in-Err c = λ raster planes-are.
    (let h = c.args.header.now in
    picture_bad h raster (λ below.
    let is = picture_is h raster c.requires.wide c.requires.high c.requires.area c.requires.depth c.requires.bits below in
    let made = c.in-Err.ensures.made (subst (λ (ps : List (List ℤ)). IsPicture (page_of h ps)) (sym planes-are) is) in
    cc))
