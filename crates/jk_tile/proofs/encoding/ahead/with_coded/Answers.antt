use Rattle.std.proofs.Common.{◌≡◌, Result, IfOk, map, reverse, sym, ap, subst, ◌∙◌}
use Rattle.jk_tile.specs.encoding.Ahead.{layered_block}
use Rattle.jk_tile.proofs.encoding.AheadLaws.{map_reverse}
use Rattle.jk_tile.proofs.encoding.ahead.with_coded.Goals as goal

pub returns-in-Ok : goal.returns-in-Ok
returns-in-Ok c =
    let f = layered_block c.args.uncoded.layers in
    let blocks = c.args.uncoded.blocks.items in
    let coded = subst (λ (r : Result _ _). IfOk r (λ v. v.items ≡ reverse (map f blocks))) c.in-Ok.is c.requires in
    record { coded = coded ∙ sym (map_reverse f blocks) ∙ ap (map f) (sym c.reverse-in-Ok.ensures.items) }
