use Rattle.jk_store.proofs.PartsLaws.{digests_more}
use Rattle.jk_store.proofs.parts.part_digests.Goals as goal

pub loop-number-preserved : goal.loop-number-preserved
loop-number-preserved c =
    digests_more c.args.bytes.now c.loop-number.number c.loop-number.digests.items c.push.new.self.items c.part.result.now c.sha256.result c.loop-number.invariant c.part.ensures c.sha256.ensures
    c.in_ok-push.ensures.items
