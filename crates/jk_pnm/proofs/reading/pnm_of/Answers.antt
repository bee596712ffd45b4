use Rattle.std.proofs.Common.{◌≡◌, length, ap, refl, subst, ◌∙◌, sym, arith}
use Rattle.jk_math.specs.Answer.{Answers}
use Rattle.jk_pnm.specs.Reading.{raster_size, header_at}
use Rattle.jk_pnm.proofs.Tails.{raster_behind, pnm_behind}
use Rattle.jk_pnm.proofs.reading.pnm_of.Goals as goal

pub grey_picture-requires-clause-room : goal.grey_picture-requires-clause-room
grey_picture-requires-clause-room c =
    let read = ap header_at (sym c.deref.ensures.value) ∙ c.in_ok-header.ensures.exact in
    let count : length c.in_ok-header.raster.now ≡ raster_size c.in_ok-header.header = omega (arith, c.if-raster-raster_size.false, c.raster_size.ensures) in
    (raster_behind c.args.bytes.items (c.in_ok-header.header, c.in_ok-header.raster.now) (raster_size c.in_ok-header.header) read count).room

pub returns : goal.returns
returns c =
    let read = ap header_at (sym c.deref.ensures.value) ∙ c.in_ok-header.ensures.exact in
    let count : length c.in_ok-header.raster.now ≡ raster_size c.in_ok-header.header = omega (arith, c.if-raster-raster_size.false, c.raster_size.ensures) in
    subst (Answers (λ i. i) c.grey_picture.result) (pnm_behind c.args.bytes.items (c.in_ok-header.header, c.in_ok-header.raster.now) (raster_size c.in_ok-header.header) read count refl) c.grey_picture.ensures
