use Rattle.std.proofs.Common.{Ok, Err, inl, inr, refl, sym, ap, subst, length, ◌∙◌}
use Rattle.jk_c.specs.PixelRows.{HaveAllPixels}
use Rattle.jk_c.proofs.pixel_rows.give_pixels.Goals as goal

pub returns-in-Ok-Some : goal.returns-in-Ok-Some
returns-in-Ok-Some g c =
    let given = rw c.in-Ok-Some.field-0-is at c.in-Ok-Some.ensures.given in
    let is = c.copy_from_slice.ensures.after ∙ c.deref.ensures.value in
    let found = given.3 in
    (Ok given.0, given.1, given.2, inl (refl, found.1, sym (ap (λ xs. length xs) is ∙ found.0), subst (λ xs. HaveAllPixels g.T.Sample.value given.0 xs) (sym is) found.2))

pub returns-in-Ok-None : goal.returns-in-Ok-None
returns-in-Ok-None g c =
    let given = c.in-Ok-None.ensures.given in
    (Ok given.0, given.1, given.2, inr (refl, λ has count. given.4 c.in-Ok-None.field-0-is has count, refl))

pub returns-in-Err : goal.returns-in-Err
returns-in-Err g c = (Err c.in-Err.fault, c.in-Err.ensures.err, tt, (c.code.ensures, refl))
