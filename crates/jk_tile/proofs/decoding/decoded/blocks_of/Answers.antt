use Rattle.std.proofs.Common.{All, Result, IfOk, subst}
use Rattle.jk_tile.specs.decoding.Decoded.{AreBlocksOf, AreDecoded}
use Rattle.jk_tile.proofs.decoding.Decoding.{blocks_decoded}
use Rattle.jk_tile.proofs.decoding.decoded.blocks_of.Goals as goal

pub returns-in-Ok-by_start : goal.returns-in-Ok-by_start
returns-in-Ok-by_start c bytes all =
    let groups = subst (λ (r : Result _ _). IfOk r (λ v. All (AreBlocksOf bytes) v.items)) c.in-Ok.is all in
    let blocks = subst (λ (r : Result _ _). IfOk r (AreBlocksOf bytes)) c.in-Ok-all_blocks.is (c.all_blocks.ensures.decoded bytes groups) in
    subst (λ (r : Result _ _). IfOk r (AreDecoded bytes)) c.in-Ok-by_start.is (blocks_decoded bytes _ c.by_start.result c.by_start.ensures.blocks blocks)
