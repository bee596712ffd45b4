use Rattle.std.proofs.Common.{◌*◌, List, replicate, ap, ◌∙◌}
use Rattle.jk_tree.specs.TagTree.{shape_of}
use Rattle.jk_tree.specs.Asking.{TagTreeRead, blank_tree}
use Rattle.jk_packet.specs.declared.block.Block.{Block}
use Rattle.jk_packet.specs.Reading.{blank_block, blank_band}
use Rattle.jk_packet.proofs.band.Band.new.Goals as goal

pub returns : goal.returns
unfolding blank_band
returns c =
    let b = c.args.shape in
    let s = shape_of b.across b.down in
    ap (λ (bs : List Block). record { shape = s; planes = b.planes; blocks = bs; inclusion = c.in_ok-inclusion.inclusion; zeros = c.in_ok-zeros.zeros }) c.in_ok-blocks.ensures
    ∙ ap (λ (t : TagTreeRead). record { shape = s; planes = b.planes; blocks = replicate (b.across * b.down) blank_block; inclusion = t; zeros = c.in_ok-zeros.zeros }) c.in_ok-inclusion.ensures.blank
    ∙ ap (λ (t : TagTreeRead). record { shape = s; planes = b.planes; blocks = replicate (b.across * b.down) blank_block; inclusion = blank_tree s; zeros = t }) c.in_ok-zeros.ensures.blank
