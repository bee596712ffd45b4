use Rattle.std.proofs.Common.{ℕ, List, length, sym, subst}
use Rattle.jk_block.specs.CodedBlocks.{contents}
use Rattle.jk_packet.specs.Written.{AreEnds}
use Rattle.jk_tile.proofs.encoding.LayerTables.{ends_of}
use Rattle.jk_tile.proofs.encoding.tables.LayeredBlock.new.Goals as goal

pub invariant_of-result : goal.invariant_of-result
invariant_of-result c =
    let is = c.requires.coded in
    let parts = c.in_ok-parts.parts.items in
    subst (λ (xs : List ℕ). AreEnds 0 parts (length xs)) (sym c.shrink_to_fit.ensures.items)
    (ends_of is.shape is.values c.args.layers (contents c.args.coded) parts is.is c.in_ok-parts.ensures.parts)
