use Rattle.std.proofs.Common.{ℕ, List, None, sym, subst}
use Rattle.jk_math.specs.Picture.{Picture}
use Rattle.jk_code.specs.Meaning.{Means}
use Rattle.jk_options.specs.Plans.{at_place}
use Rattle.jk_commands.proofs.CommandLaws.{placed_there}
use Rattle.jk_commands.proofs.dressing.encode_image_dressed_with.Goals as goal

pub returns-clause-means : goal.returns-clause-means
returns-clause-means g c =
    let image = c.args.image in
    let plan = c.args.plan in
    let there = placed_there image plan c.in_ok-placed.placed c.in_ok-placed.ensures.exact in
    let due = at_place image plan.x0 plan.y0 in
    let m = subst (λ (q : Picture). Means c.in_ok-file.file.items 0 q) there c.in_ok-file.ensures.means in
    c.dress_file.ensures.means 0 None due (subst (λ (x : List ℕ). Means x 0 due) (sym c.deref.ensures.value) m)
