use Rattle.std.proofs.Common.{refl, set, get_or, arith}
use Rattle.std.specs.Int.RustNames.{bit_or}
use Rattle.jk_block.specs.Fields.{flagged, with_word, magnitude_of}
use Rattle.jk_block.proofs.Drawing.{draft_same}
use Rattle.jk_block.proofs.decoding.Writing.{marked_words}
use Rattle.jk_block.proofs.decoding.block_state.BlockState.visit_all.Goals as goal

pub returns-clause-visited : goal.returns-clause-visited
returns-clause-visited c =
    let k = c.args.self.now in
    let s = k.shape in
    let at = c.args.spot in
    let p = c.word_place-at.result in
    draft_same s s (magnitude_of s k.planes k.bits.items) (magnitude_of s k.planes k.bits.items) (flagged s k.negative.now) (flagged s k.negative.now)
    (flagged s (set k.visited.now p (bit_or (get_or k.visited.now p 0) c.args.places))) (with_word (flagged s k.visited.now) at.word at.stripe c.args.places) refl refl refl
    (marked_words at k c.args.places p p c.requires.spot.word c.requires.spot.stripe c.word_place-at.ensures.place (omega arith) c.requires.inside)
