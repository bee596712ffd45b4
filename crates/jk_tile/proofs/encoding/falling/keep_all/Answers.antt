use Rattle.std.proofs.Common.{◌∙◌}
use Rattle.jk_tile.proofs.encoding.ComponentDone.{more_kept}
use Rattle.jk_tile.proofs.encoding.falling.keep_all.Goals as goal

pub loop-strips-preserved : goal.loop-strips-preserved
loop-strips-preserved c =
    more_kept c.in-Some.strips c.loop-strips.bands.items c.push.new.self.items c.loop-strips.strips-iterator.rest.items c.next.new.self.rest.items c.in-Some.ensures.steps.0 c.in_ok-push.ensures.items ∙ c.loop-strips.invariant
