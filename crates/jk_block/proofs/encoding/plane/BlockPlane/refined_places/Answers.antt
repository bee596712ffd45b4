use Rattle.std.proofs.Common.{ap, ◌∙◌, get_or}
use Rattle.std.specs.Prelude.{nat_le}
use Rattle.jk_scan.specs.Bits.{on}
use Rattle.jk_block.specs.encoding.Viewed.{seen}
use Rattle.jk_block.proofs.encoding.plane.BlockPlane.refined_places.Goals as goal
use Rattle.jk_block.proofs.WordBits.{drawn_bit}

pub returns : goal.returns
returns c = λ m within.
    let v = c.args.self.now in
    let at = c.args.spot in
    ap (λ p. on (get_or v.refined.now p 0) m) c.word_place.ensures.place
    ∙ drawn_bit v.shape (λ x y. nat_le 4 ((seen v).magnitude x y)) v.refined.now at.word at.stripe m v.older c.requires.word c.requires.stripe within
