use Rattle.std.proofs.Common.{◌∙◌, refl}
use Rattle.jk_window.proofs.PackingLaws.{near_more}
use Rattle.jk_window.proofs.packing.add_near.Goals as goal

pub returns-clause-ok : goal.returns-clause-ok
returns-clause-ok c =
    near_more c.args.lists.now _ c.args.piece.now c.args.first c.args.base c.len-at.result c.args.counted c.requires (c.len-at.ensures ∙ c.args.lists.now.near.ok.0) c.in_ok-push.ensures.items refl refl c.in_ok-push_near.ensures.ok refl
