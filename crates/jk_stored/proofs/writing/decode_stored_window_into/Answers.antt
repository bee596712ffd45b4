use Rattle.std.proofs.Common.{◌≡◌, ℕ, List, Ok, OnOk, Result, sym, subst, ◌∙◌}
use Rattle.std.specs.Bool.{⊤}
use Rattle.jk_math.specs.Picture.{Picture}
use Rattle.jk_math.specs.declared.fault.Fault.{Fault}
use Rattle.jk_pnm.specs.Pnm.{IsPnm}
use Rattle.jk_pnm.specs.Written.{written as pnm_of}
use Rattle.jk_pnm.specs.Sending.{IsLeftBySending}
use Rattle.jk_code.specs.ViewReading.{meaning_view_at}
use Rattle.jk_options.specs.Plans.{at_place}
use Rattle.jk_commands.specs.Commands.{window_decoded, window_given}
use Rattle.jk_commands.proofs.LeftLaws.{Wrote, window_is, on_ok}
use Rattle.jk_stored.proofs.WritingLaws.{window_written, given_written, unsupported_left, if_told}
use Rattle.jk_stored.proofs.writing.decode_stored_window_into.Goals as goal

pub returns-clause-exact : goal.returns-clause-exact
returns-clause-exact g c = λ f keeping long.
    let old = g.W.Write.contents c.args.writer.now in
    let new = g.W.Write.contents c.write_into-written.new.writer in
    let image = c.in_ok-image.image in
    if_told (λ (r : Result ⊤ Fault). Wrote old new (λ text. IsLeftBySending (window_decoded f c.args.view) text r)) c.unless_unsupported.result c.write_into-written.result c.unless_unsupported.ensures.same
    (window_written old new f c.args.view image c.write_into-written.result (c.in_ok-image.ensures f keeping long) c.write_into-written.ensures.exact)

pub returns-clause-found : goal.returns-clause-found
returns-clause-found g c = λ f keeping long.
    let image = c.in_ok-image.image in
    let v = c.args.view in
    let shown : meaning_view_at f v ≡ Ok image = c.in_ok-image.ensures f keeping long in
    if_told (λ (r : Result ⊤ Fault). OnOk r ((p : Picture) × (meaning_view_at f v ≡ Ok p) × ((file : List ℕ) → window_decoded f v ≡ Ok file → IsPnm file (at_place p 0 0)))) c.unless_unsupported.result c.write_into-written.result
    c.unless_unsupported.ensures.same
    (on_ok c.write_into-written.result (λ known. (image, shown, λ file e. known file (sym (window_is f v image shown) ∙ e))) c.write_into-written.ensures.means)

pub returns-clause-means : goal.returns-clause-means
returns-clause-means g c = λ f keeping long fits whole means.
    let old = g.W.Write.contents c.args.writer.now in
    let new = g.W.Write.contents c.write_into-written.new.writer in
    let image = c.in_ok-image.image in
    if_told (λ (r : Result ⊤ Fault). Wrote old new (λ text. IsLeftBySending (window_given c.args.view whole) text r)) c.unless_unsupported.result c.write_into-written.result c.unless_unsupported.ensures.same
    (given_written old new f c.args.view image whole c.write_into-written.result (c.in_ok-image.ensures f keeping long) fits means c.write_into-written.ensures.exact)

pub returns-clause-none : goal.returns-clause-none
returns-clause-none g c = λ none.
    let old = g.W.Write.contents c.args.writer.now in
    let new = g.W.Write.contents c.write_into-written.new.writer in
    let image = c.in_ok-image.image in
    unsupported_left old new (pnm_of image)
    (subst (λ (r : Result ⊤ Fault). Wrote old new (λ text. IsLeftBySending (pnm_of image) text r)) (c.unless_unsupported.ensures.none none) c.write_into-written.ensures.exact)
