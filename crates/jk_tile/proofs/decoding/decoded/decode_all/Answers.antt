use Rattle.std.proofs.lemmas.List.Elements.{All-push, All-same}
use Rattle.jk_tile.specs.decoding.Decoded.{IsDecoded}
use Rattle.jk_tile.proofs.decoding.decoded.decode_all.Goals as goal

pub loop-index-preserved : goal.loop-index-preserved
loop-index-preserved c =
    let is = IsDecoded c.args.bytes.now in
    All-same is c.push.new.self.items _ c.in_ok-push.ensures.items (All-push is c.loop-index.blocks.items _ c.loop-index.invariant c.in_ok-decode_segment.ensures)
