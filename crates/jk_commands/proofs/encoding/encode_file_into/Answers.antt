use Rattle.std.proofs.Common.{◌≡◌, ap, sym, subst, ◌∙◌}
use Rattle.std.proofs.lemmas.Result.{err_from_is_err_and}
use Rattle.jk_math.specs.Picture.{Picture}
use Rattle.jk_math.specs.Steps.{ok_is}
use Rattle.jk_code.specs.Meaning.{Means}
use Rattle.jk_options.specs.Plans.{at_place}
use Rattle.jk_commands.proofs.CommandLaws.{placed_there}
use Rattle.jk_commands.proofs.LeftLaws.{encoded_is, left_unread, left_unplaced, left_of, left_whole, on_ok, on_ok_all}
use Rattle.jk_commands.proofs.encoding.encode_file_into.Goals as goal

pub returns-in_err-image-clause-part : goal.returns-in_err-image-clause-part
returns-in_err-image-clause-part g c =
    let same = err_from_is_err_and c.from_residual.result c.from_residual.ensures.1 in
    rw (same.1, same.2) (left_unread (g.W.Write.contents c.args.writer.now) c.args.bytes.items c.args.plan c.in_err-image.field-0.0 c.in_err-image.ensures.exact)

pub returns-in_err-placed-clause-part : goal.returns-in_err-placed-clause-part
returns-in_err-placed-clause-part g c =
    let same = err_from_is_err_and c.from_residual-in_err-placed.result c.from_residual-in_err-placed.ensures.1 in
    rw (same.1, same.2)
    (left_unplaced (g.W.Write.contents c.args.writer.now) c.args.bytes.items c.args.plan c.in_ok-image.image c.in_err-placed.field-0.0 c.in_ok-image.ensures.exact c.in_err-placed.ensures.exact)

pub returns-clause-part : goal.returns-clause-part
returns-clause-part g c =
    left_of (g.W.Write.contents c.args.writer.now) (g.W.Write.contents c.encode_into.new.writer) c.args.bytes.items c.args.plan c.in_ok-image.image c.in_ok-placed.placed c.encode_into.result
    c.in_ok-image.ensures.exact c.in_ok-placed.ensures.exact c.encode_into.ensures.part

pub returns-clause-ok : goal.returns-clause-ok
returns-clause-ok g c =
    left_whole (g.W.Write.contents c.args.writer.now) (g.W.Write.contents c.encode_into.new.writer) c.args.bytes.items c.args.plan c.encode_into.result (returns-clause-part g c)

pub returns-clause-found : goal.returns-clause-found
returns-clause-found g c = on_ok_all c.encode_into.result (c.in_ok-image.image, c.in_ok-image.ensures.found)

pub returns-clause-means : goal.returns-clause-means
returns-clause-means g c p is =
    let image = c.in_ok-image.image in
    let plan = c.args.plan in
    let placed = c.in_ok-placed.placed in
    let same : p ≡ image = ok_is p image (c.in_ok-image.ensures.only p is) in
    let there = placed_there image plan placed c.in_ok-placed.ensures.exact ∙ ap (λ (q : Picture). at_place q plan.x0 plan.y0) (sym same) in
    on_ok c.encode_into.result
    (λ known file e. subst (λ (q : Picture). Means file 0 q) there (known file (sym (encoded_is c.args.bytes.items plan image placed c.in_ok-image.ensures.exact c.in_ok-placed.ensures.exact) ∙ e)).0)
    c.encode_into.ensures.means
