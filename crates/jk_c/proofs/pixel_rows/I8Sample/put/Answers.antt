use Rattle.std.proofs.Common.{ℤ, pos}
use Rattle.jk_c.proofs.PixelLaws.{put_pixels}
use Rattle.jk_c.proofs.pixel_rows.I8Sample.put.Goals as goal

pub returns-clause-put : goal.returns-clause-put
returns-clause-put c = λ is.
    let put = c.put_image_tinies.ensures.put is in
    put_pixels (λ (x : ℤ). x) (pos 0) c.args.image.now c.put_image_tinies.new.pixels c.put_image_tinies.ensures.profile put.count put.each

pub returns-clause-fits : goal.returns-clause-fits
returns-clause-fits c = λ has long. c.put_image_tinies.ensures.fits.1 (record { signed = has.sign; few = has.few; room = long })
