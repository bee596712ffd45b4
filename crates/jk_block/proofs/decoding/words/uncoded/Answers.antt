use Rattle.std.proofs.Common.{get_or, arith}
use Rattle.std.proofs.lemmas.Nat.{or_lt}
use Rattle.jk_block.specs.Fields.{magnitude_of}
use Rattle.jk_block.proofs.decoding.Leaving.{left_at}
use Rattle.jk_block.proofs.decoding.words.uncoded.Goals as goal

pub returns : goal.returns
returns c = λ m l.
    let k = c.args.block_state.now in
    let p = c.word_place-place.result in
    left_at k.shape (magnitude_of k.shape k.planes k.bits.items) k.significant.now k.visited.now c.args.spot.word c.args.spot.stripe m p c.args.limits k.known_significant c.requires.spot.word c.requires.spot.stripe c.word_place-place.ensures.place
    (or_lt 64 (get_or k.significant.now p 0) (get_or k.visited.now p 0) (omega arith) (omega arith)) c.requires.limits l
