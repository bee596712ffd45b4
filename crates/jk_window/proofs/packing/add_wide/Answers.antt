use Rattle.std.proofs.Common.{◌∙◌, refl, false}
use Rattle.jk_window.proofs.PackingLaws.{wide_more}
use Rattle.jk_window.proofs.packing.add_wide.Goals as goal

pub returns-clause-ok : goal.returns-clause-ok
returns-clause-ok c =
    wide_more c.args.lists.now _ c.args.piece.now c.args.first c.len-at.result false c.in_ok-push_wide.ensures.words (c.len-at.ensures ∙ c.args.lists.now.wide.ok.0) c.in_ok-push.ensures.items refl refl refl c.in_ok-push_wide.ensures.ok
