use Rattle.std.proofs.Common.{ℕ, pos}
use Rattle.jk_c.proofs.PixelLaws.{put_pixels}
use Rattle.jk_c.proofs.pixel_rows.U16Sample.put.Goals as goal

pub returns-clause-put : goal.returns-clause-put
returns-clause-put c = λ is.
    let put = c.put_image_words.ensures.put is in
    put_pixels (λ (x : ℕ). pos x) 0 c.args.image.now c.put_image_words.new.pixels c.put_image_words.ensures.profile put.count put.each

pub returns-clause-fits : goal.returns-clause-fits
returns-clause-fits c = λ has long. c.put_image_words.ensures.fits.1 (record { plain = has.sign; few = has.few; room = long })
