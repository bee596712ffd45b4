use Rattle.std.proofs.Common.{[], List, ℤ, ◌^◌, All, get_or, ap, sym, subst, ◌∙◌}
use Rattle.std.proofs.lemmas.List.Elements.{All-take, All-drop}
use Rattle.jk_math.specs.Signed.{IsBelow}
use Rattle.jk_tile.proofs.encoding.Forwards.{plane_below}
use Rattle.jk_tile.proofs.encoding.values.row_of.Goals as goal

pub returns-clause-small : goal.returns-clause-small
returns-clause-small c =
    let p = c.args.image.now in
    let plane = c.plane.ensures ∙ ap (λ (ps : List (List ℤ)). get_or ps c.args.component []) c.planes.ensures in
    All-take (IsBelow (2 ^ 28)) _ _ (All-drop (IsBelow (2 ^ 28)) _ _
    (subst (All (IsBelow (2 ^ 28))) (sym plane) (plane_below p c.args.component c.requires.picture c.requires.component)))
