use Rattle.std.proofs.Common.{◌∙◌, refl}
use Rattle.jk_window.proofs.PackingLaws.{joined_more}
use Rattle.jk_window.proofs.packing.add_joined.Goals as goal

pub returns-clause-ok : goal.returns-clause-ok
returns-clause-ok c =
    joined_more c.args.lists.now _ c.args.piece.now c.args.first c.args.base c.len-at.result c.args.counted c.requires.near c.requires.joined (c.len-at.ensures ∙ c.args.lists.now.marks.ok.0) c.requires.level
    c.in_ok-push.ensures.items c.in_ok-push_marks.ensures.ok c.in_ok-push_headers.ensures.ok refl refl
