use Rattle.std.proofs.Common.{arith}
use Rattle.jk_block.specs.Fields.{magnitude_of}
use Rattle.jk_block.proofs.decoding.Refining.{older_at}
use Rattle.jk_block.proofs.decoding.words.older.Goals as goal

pub returns : goal.returns
returns c = λ m l.
    let k = c.args.block_state.now in
    older_at k.shape (magnitude_of k.shape k.planes k.bits.items) k.significant.now k.visited.now c.args.spot.word c.args.spot.stripe m c.word_place-place.result k.known_significant c.requires.word c.requires.stripe c.word_place-place.ensures.place (omega arith) l
