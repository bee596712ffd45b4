use Rattle.std.proofs.Common.{◌≡◌, ℕ, sym, subst}
use Rattle.std.specs.Prelude.{IfOk}
use Rattle.std.specs.Global.{Vec}
use Rattle.jk_math.specs.Picture.{Picture}
use Rattle.jk_math.specs.Steps.{if_ok, ok_is}
use Rattle.jk_code.specs.Meaning.{Means}
use Rattle.jk_options.specs.Plans.{at_place}
use Rattle.jk_commands.proofs.dressing.encode_file_dressed_with.Goals as goal

pub returns-clause-means : goal.returns-clause-means
returns-clause-means g c p is =
    let image = c.in_ok-image.image in
    let plan = c.args.plan in
    let same : p ≡ image = ok_is p image (c.in_ok-image.ensures.only p is) in
    subst (λ (q : Picture). IfOk c.encode_image_dressed_with.result (λ (v : Vec ℕ). Means v.items 0 (at_place q plan.x0 plan.y0))) (sym same) c.encode_image_dressed_with.ensures.means

pub returns-clause-found : goal.returns-clause-found
returns-clause-found g c =
    if_ok c.encode_image_dressed_with.result (λ v m. (c.in_ok-image.image, c.in_ok-image.ensures.found, m)) c.encode_image_dressed_with.ensures.means
