use Rattle.std.proofs.Common.{get_or, ap, ◌∙◌}
use Rattle.jk_scan.specs.Bits.{on}
use Rattle.jk_block.proofs.decoding.words.refined_places.Goals as goal
use Rattle.jk_block.proofs.WordBits.{flag_bit}

pub returns : goal.returns
returns c = λ m l on_row.
    ap (λ p. on (get_or c.args.refined.now p 0) m) c.word_place.ensures.place ∙ flag_bit c.args.shape c.args.refined.now c.args.spot.word c.args.spot.stripe m l on_row
