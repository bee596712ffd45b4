use Rattle.std.proofs.Common.{◌≡◌, map, reverse, ap, ◌∙◌}
use Rattle.std.specs.List.{flat_map}
use Rattle.jk_math.specs.Lists.{lists_of}
use Rattle.jk_jobs.proofs.Laws.{zipped}
use Rattle.jk_tile.specs.encoding.Ahead.{layered_block, layered_group, IsGroupCoded}
use Rattle.jk_tile.proofs.encoding.AheadLaws.{groups_given, one_ok}
use Rattle.jk_tile.proofs.encoding.ahead.coded_lists.Goals as goal

pub returns : goal.returns
returns g c =
    let jobs = c.deref.result.now in
    let lists = c.in_ok-lists.lists.items in
    let blocks = c.args.blocks.now in
    one_ok (λ v. v.items ≡ reverse (flat_map (λ own. own) (lists_of lists))) (λ v. v.items ≡ reverse (map (layered_block c.args.layers) blocks)) c.joined.result (λ v is.
    is ∙ ap reverse (groups_given jobs lists (zipped IsGroupCoded jobs lists (c.in_ok-lists.ensures.given c.args.workers.now.some c.args.workers.now.few)) ∙ ap (flat_map layered_group) c.deref.ensures.value ∙ c.in_ok-jobs.ensures.groups.whole)) c.joined.ensures.value
