use Rattle.std.proofs.Common.{◌≡◌, ◌⊎◌, Result, MatchResult, length, map, reverse, ap, subst, ◌∙◌}
use Rattle.std.specs.List.{flat_map}
use Rattle.jk_math.specs.Lists.{lists_of}
use Rattle.jk_math.specs.Memory.{IsMemory}
use Rattle.jk_jobs.specs.Dealing.{AreGiven, IsFirstFault}
use Rattle.jk_jobs.proofs.Laws.{zipped}
use Rattle.jk_tile.specs.encoding.Ahead.{layered_block, layered_group, IsGroupCoded}
use Rattle.jk_tile.proofs.encoding.AheadLaws.{groups_given, one_ok}
use Rattle.jk_tile.proofs.encoding.ahead.coded_beside.Goals as goal

pub returns-in-Ok-lists-clause-coded : goal.returns-in-Ok-lists-clause-coded
returns-in-Ok-lists-clause-coded g c =
    let jobs = c.deref.result.now in
    let lists = c.in-Ok-lists.lists.items in
    let blocks = c.args.blocks.now in
    let given = subst (λ (r : Result _ _). MatchResult r (λ v. AreGiven IsGroupCoded jobs (length jobs) v.items) (λ e. IsMemory e ⊎ IsFirstFault IsGroupCoded jobs e)) c.in-Ok-lists.is
    (c.map_jobs_beside-lists.ensures.given c.args.workers.now.some c.args.workers.now.few) in
    let joined : flat_map (λ own. own) (lists_of lists) ≡ map (layered_block c.args.layers) blocks =
    groups_given jobs lists (zipped IsGroupCoded jobs lists given) ∙ ap (flat_map layered_group) c.deref.ensures.value ∙ c.in-Ok.ensures.groups.whole in
    one_ok (λ v. v.items ≡ reverse (flat_map (λ own. own) (lists_of lists))) (λ v. v.items ≡ reverse (map (layered_block c.args.layers) blocks)) c.joined.result (λ v is. is ∙ ap reverse joined) c.joined.ensures.value
