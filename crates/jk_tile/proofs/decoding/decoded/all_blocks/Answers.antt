use Rattle.jk_jobs.proofs.Shares.{rest_all}
use Rattle.std.proofs.lemmas.List.Elements.{All-append, All-same}
use Rattle.jk_tile.specs.decoding.Decoded.{IsDecoded, AreBlocksOf}
use Rattle.jk_tile.proofs.decoding.decoded.all_blocks.Goals as goal

pub loop-group-preserved : goal.loop-group-preserved
loop-group-preserved c = λ bytes all.
    let before = c.loop-group.invariant bytes all in
    let split = rest_all (AreBlocksOf bytes) c.loop-group.group-iterator.rest.items c.next.new.self.rest.items c.in-Some.group c.in-Some.ensures.steps.0 before.1 in
    (All-same (IsDecoded bytes) c.append.new.self.items _ c.in_ok-append.ensures.items (All-append (IsDecoded bytes) c.loop-group.blocks.items _ before.0 split.0), split.1)
