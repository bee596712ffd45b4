use Rattle.std.proofs.Common.{sym, subst}
use Rattle.jk_window.specs.declared.view.View.{View}
use Rattle.jk_code.specs.Meaning.{Means}
use Rattle.jk_code.specs.Viewing.{picture_of_view}
use Rattle.jk_code.specs.ViewReading.{meaning_view_at}
use Rattle.jk_c.specs.Signed.{GivesSignedOrMemory}
use Rattle.jk_c.proofs.Answering.{signed_due}
use Rattle.jk_c.proofs.windows.jk_decode_window_i8.Goals as goal

pub returns-clause-exact : goal.returns-clause-exact
returns-clause-exact c =
    subst (λ (v : View). GivesSignedOrMemory 8 (meaning_view_at c.args.file.now v) c.args.pixels.now c.give_tinies.result c.give_tinies.new.pixels) c.view.ensures
    (signed_due 8 c.decode_window-image.result (meaning_view_at c.args.file.now c.view.result) c.args.pixels.now c.give_tinies.new.pixels c.give_tinies.result c.decode_window-image.ensures.exact c.give_tinies.ensures)

pub returns-clause-means : goal.returns-clause-means
returns-clause-means c = λ p m.
    let is = c.view.ensures in
    subst (λ (v : View). GivesSignedOrMemory 8 (picture_of_view v p) c.args.pixels.now c.give_tinies.result c.give_tinies.new.pixels) is
    (signed_due 8 c.decode_window-image.result (picture_of_view c.view.result p) c.args.pixels.now c.give_tinies.new.pixels c.give_tinies.result
    (c.decode_window-image.ensures.means p (subst (λ (v : View). Means c.args.file.now v.reduce p) (sym is) m)) c.give_tinies.ensures)
