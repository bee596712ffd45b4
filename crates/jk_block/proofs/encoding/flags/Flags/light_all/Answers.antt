use Rattle.std.proofs.Common.{arith}
use Rattle.jk_block.proofs.WordDrawing.{word_significant}
use Rattle.jk_block.proofs.encoding.flags.Flags.light_all.Goals as goal

pub returns-clause-known_significant : goal.returns-clause-known_significant
returns-clause-known_significant c = λ f drawn.
    let s = c.args.shape in
    let at = c.args.spot in
    word_significant s f c.args.self.now.significant.now at.word at.stripe c.args.places c.word_place-at.result c.requires.sized (omega arith) c.requires.spot.word c.requires.spot.stripe c.word_place-at.ensures.place c.requires.rows drawn
